-- What a program does that has read a text: that it is what an import does. Assumes nothing.
use Rattle.std.proofs.Common.{◌≡◌, ap, ◌∙◌, ℕ, List, Some, take}
use Rattle.rules.specs.Sheet.{slot_at}
use Rattle.rules.specs.Refusals.{EditAnswer, edit_says, as_edit, Outcome, on_slot}
use Rattle.leaflet.specs.Written.{room}
use Rattle.leaflet.specs.Reader.{fault_in, words_in}
use Rattle.leaflet.specs.Enums.{ReadsWords}
use Rattle.sheet.specs.Import.{replace_slot, import}
use Rattle.sheet.proofs.OnSlot.{on_same}
use Rattle.sheet.proofs.ImportEdits.{replaced_cut}

-- what is put of a text's words, with room for one record more than a slot holds, does what all of them do
replaced_text : (s : List ℕ) (size : ℕ) (text : List ℕ) →
    replace_slot s (take room (words_in size text)) ≡ replace_slot s (words_in size text)
unfolding words_in
replaced_text s size text = replaced_cut s _

by_words : (ws : List ℕ) (caller k size : ℕ) (text put : List ℕ) → put ≡ take room (words_in size text) →
    on_slot as_edit ws caller k (λ s. replace_slot s put)
    ≡ on_slot as_edit ws caller k (λ s. replace_slot s (words_in size text))
by_words ws caller k size text put t =
    let s = slot_at ws k in
    on_same as_edit ws caller k _ _ (ap (replace_slot s) t ∙ replaced_text s size text)

-- The two ways ------------------------------------------------------------------------------------------------------

module _ (ws : List ℕ) (caller k size : ℕ) (text : List ℕ) where
  pub import_at_fault : {p : ℕ} → fault_in text ≡ Some p → (edit_says 17 p 0, ws) ≡ import ws caller k size text
  unfolding import
  import_at_fault h = rw h

  pub import_in_words : {e : List ℕ} {n : ℕ} {o : Outcome EditAnswer} → ReadsWords text size e n →
      o ≡ on_slot as_edit ws caller k (λ s. replace_slot s (take n e)) → o ≡ import ws caller k size text
  unfolding import
  import_in_words {e} {n} h d = rw h.accepted (d ∙ by_words ws caller k size text (take n e) h.same)
