-- Where the loop that reads a text into records ends: at a fault, at the text's end, or where there is no more room.
-- Assumes nothing.
use Rattle.std.proofs.Common.{◌≡◌, sym, ap, ◌∙◌, ℕ, ◌-◌, arith, true, inl, inr}
use Rattle.std.proofs.Common.{List, [], ◌++◌, append-nil, length, take, Err}
use Rattle.std.proofs.Common.{None, Some}
use Rattle.std.proofs.Math.Seq.{take_at, take_all, length-take-le}
use Rattle.rules.specs.Records.{record_words}
use Rattle.leaflet.specs.Imported.{as_word}
use Rattle.leaflet.specs.Decoding.{nothing, found, next}
use Rattle.leaflet.specs.Spots.{Spot, outside, is_outside}
use Rattle.leaflet.specs.Reader.{ended, fault_in, items_from, words_in}
use Rattle.leaflet.specs.Written.{rt_ahead, due, written, room, rubied_to}
use Rattle.leaflet.specs.Enums.{item_of, spot_of, ReadsWords}
use Rattle.leaflet.specs.Past.{Past, refused, full}
use Rattle.leaflet.specs.declared.spots.Item.{Item as ItemEnum}
use Rattle.leaflet.specs.declared.progress.Progress.{Progress}
use Rattle.leaflet.specs.declared.progress.NotPassed.TheVariants.{Refused, Full}
use Rattle.std.proofs.lemmas.Bool.{cases_Bool}
use Rattle.std.proofs.lemmas.Option.{none-some}
use Rattle.leaflet.proofs.AcceptedOrFault.{outside_is, accepted, refused as no_leaflet, told, items_spelt}
use Rattle.leaflet.proofs.ReadAnswers.{words_told}
use Rattle.leaflet.proofs.WrittenRecords.{written_spelt}
use Rattle.leaflet.proofs.FaultSteps.{fault_at, fault_ended, fault_refused}
use Rattle.leaflet.proofs.ItemsFrom.{items_end}
use Rattle.leaflet.proofs.PutRuby.{length_rubied}
use Rattle.leaflet.proofs.ReadHeld.{pending, none_open}
use Rattle.leaflet.proofs.ReadHeldAhead.{held_ahead}
use Rattle.leaflet.proofs.ReadLoop.{Loop, At}

-- the words that the loop puts are those of the text's parts, where the text is accepted
all_words : (size : ℕ) (bs : List ℕ) → fault_in bs ≡ None →
    record_words (written size outside 0 0 (items_from bs)) ≡ words_in size bs
all_words size bs h =
    elim (told bs) [
      | accepted a d e ↦
          ap record_words
          (ap (written size outside 0 0) (items_spelt a.spells)
          ∙ written_spelt size 0 0 a.content a.spells.proper)
          ∙ sym (words_told size a.spells)
      | no_leaflet k f d e ↦ absurd (none-some _ (sym h ∙ d))
    ]

-- a text has ended only outside ruby elements
ended_outside : (q : Spot) (k : ℕ) (bs : List ℕ) → ended q k bs ≡ None → is_outside q ≡ true
ended_outside q k bs e =
    elim (cases_Bool (is_outside q)) [ inl f ↦ f | inr f ↦ absurd (none-some _ (sym (rw f at e))) ]

-- where no item goes on
module _ {text : List ℕ} {size : ℕ} {out rest : List ℕ} {q : Spot} {k n i g : ℕ}
    (l : Loop text size out rest q k n i g) where
  pub loop_ended : nothing ≡ next rest → ended q (length text - length rest) rest ≡ fault_in text
  loop_ended e = sym (fault_ended (length text) q rest (sym e)) ∙ l.walked

  pub loop_end : nothing ≡ next rest → ended q (length text - length rest) rest ≡ None → ReadsWords text size out i
  unfolding written record_words
  loop_end e z =
      let o = ended_outside q _ rest z in
      let well = sym (loop_ended e) ∙ z in
      let d = due q n (items_from rest) in
      let none_left : items_from rest ≡ [] = items_end rest (sym e) in
      let whole : take i out ≡ words_in size text
      = sym (append-nil (take i out))
      ∙ ap (λ is. take i out ++ record_words (written size q k d is)) (sym none_left)
      ∙ none_open l.held (ap pending (outside_is q o)) ∙ all_words size text well in
      let few = length-take-le i out (omega (arith, l.long, l.fits)) in
      record {
        accepted = well;
        fits = l.fits;
        same = whole ∙ sym (take_all room (words_in size text) (rw (← whole) (omega (arith, few, l.fits))));
      }

-- where an item is not passed
module _ {text : List ℕ} {size : ℕ} {out rest : List ℕ} (a : Progress) (l : At text size out rest a) where
  pub loop_refused : (i : ItemEnum) (ds : List ℕ) {e : List ℕ} → found (item_of i) ds ≡ next rest →
      Past size out e a i (Err Refused) → fault_in text ≡ Some (length text - length rest)
  loop_refused i ds f (refused e) = sym l.walked ∙ fault_refused (length text) (spot_of a.spot) rest (sym f) e

  -- where there is no more room, the words are those of 257 records: a group that is open gets its ruby count from what
  -- is ahead
  pub loop_full : (i : ItemEnum) (m : ℕ) {d e : List ℕ} → Past size out d a i (Err Full) →
      m ≡ rt_ahead (items_from rest) → e ≡ rubied_to a.start a.end (as_word m) d →
      fault_at (length text) (spot_of a.spot) rest ≡ None → ReadsWords text size e a.end
  loop_full i m {e = e} (full b z x) e₁ r f =
      let well = sym l.walked ∙ f in
      let all : a.end ≡ room = omega (arith, l.fits, l.whole, x) in
      let h = held_ahead (spot_of a.spot) l.held (omega (arith, l.long, l.fits)) b in
      let same : e ≡ rubied_to a.start a.end (as_word (rt_ahead (items_from rest))) out = rw (← e₁) (r ∙ rw z) in
      let whole : take a.end e ++ h.later ≡ words_in size text
      = ap (λ v. take a.end v ++ h.later) same ∙ h.whole ∙ all_words size text well in
      let long : length e ≡ room = ap length same ∙ length_rubied _ _ _ out ∙ l.long in
      record {
        accepted = well;
        fits = l.fits;
        same =
            sym (ap (take room) (sym whole)
            ∙ take_at (take a.end e) h.later room (length-take-le a.end e (omega (arith, long, l.fits)) ∙ all));
      }
