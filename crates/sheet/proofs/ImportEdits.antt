-- Laws of the edit that an import is, which deletes all of a slot's records: as a program makes it, and that what is
-- inserted may be cut one record past what a slot holds. Assumes nothing.
use Rattle.std.proofs.Common.{◌≡◌, sym, ap, ◌∙◌, ℕ, ◌+◌, ◌-◌, ◌*◌, ◌/◌, ◌%◌, ◌<◌, arith, true, false, cond, List, inl}
use Rattle.std.proofs.Common.{inr, ltb, length, get_or, take, drop, get_or-take, get_or-drop, length-take-le}
use Rattle.std.proofs.Common.{take_all, le-ltb, lt-ltb, eq-eqb}
use borrow.Rule.Slice.PartMut.{put_mid}
use Rattle.rules.specs.Basics.{first_of}
use Rattle.rules.specs.Layout.{most_records, record_length, slot_length}
use Rattle.rules.specs.Records.{Rec, record_words}
use Rattle.rules.specs.Sheet.{count_of}
use Rattle.rules.specs.Refusals.{Answer, says, EditAnswer, as_edit, Outcome, sound, slot_rows, entry_answer, edit_slot}
use Rattle.rules.specs.Refusals.{on_slot}
use Rattle.std.proofs.lemmas.Bool.{cases_Bool, cases_lt}
use Rattle.rules.proofs.SlotWords.{length_record_words}
use Rattle.leaflet.specs.Written.{room}
use Rattle.sheet.specs.Import.{replace_slot}
use Rattle.sheet.proofs.EntryLaws.{on_range}

-- On the sheet ------------------------------------------------------------------------------------------------------

-- the count is read in the sheet, and then the part is lent
pub replaced_on_range : (ws : List ℕ) (caller k : ℕ) (inserted : List ℕ) (start end : ℕ) (a : EditAnswer)
    (last : List ℕ) → says 0 0 ≡ entry_answer ws caller k → start ≡ slot_length * k →
    end ≡ slot_length * k + slot_length →
    ◌≡◌ {A = Outcome EditAnswer} (a, last)
    (edit_slot (take (end - start) (drop start ws)) 0 (get_or ws (start + 3) 0) inserted) →
    ◌≡◌ {A = Outcome EditAnswer} (a, put_mid start (end - start) ws last)
    (on_slot as_edit ws caller k (λ s. replace_slot s inserted))
unfolding replace_slot
replaced_on_range ws caller k inserted start end a last z s e h =
    let count : get_or ws (start + 3) 0 ≡ count_of (take (end - start) (drop start ws))
    = sym (get_or-take (end - start) (drop start ws) 3 0 (omega arith) ∙ get_or-drop start ws 3 0) in
    on_range as_edit ws caller k (λ l. replace_slot l inserted) start end a last z s e
    (h ∙ ap (λ c. edit_slot (take (end - start) (drop start ws)) 0 c inserted) count)

-- Too much to insert ------------------------------------------------------------------------------------------------

-- whole records, more than a slot holds: 5 and 6 do not apply, and 7 does where 4 does not
module _ (s inserted : List ℕ) (whole : length inserted % record_length ≡ 0)
    (many : most_records < length inserted / record_length) where
  abbrev full : Answer
  full = cond (sound s) (says 7 0) (says 4 0)

  full_answer : (a : Answer) → first_of (slot_rows s 0 (count_of s) inserted) a ≡ full
  unfolding slot_rows
  full_answer a =
      let n = count_of s in
      let before : ltb n 0 ≡ false = le-ltb n 0 (omega arith) in
      let after : ltb n (0 + n) ≡ false = le-ltb n (0 + n) (omega arith) in
      let more : ltb most_records (n - n + length inserted / record_length) ≡ true
      = lt-ltb most_records (n - n + length inserted / record_length) (omega arith) in
      elim (cases_Bool (sound s)) [
        | inl e ↦ rw (e, before, after, eq-eqb _ _ whole, more)
        | inr e ↦ rw e
      ]

  full_refused : replace_slot s inserted ≡ (as_edit full, s)
  unfolding replace_slot edit_slot
  full_refused =
      rw full_answer (elim (cases_Bool (sound s)) [ inl e ↦ rw e | inr e ↦ rw e ])

-- so words that are cut one record past what a slot holds do the same
pub replaced_cut : (s : List ℕ) (rs : List Rec) →
    replace_slot s (take room (record_words rs)) ≡ replace_slot s (record_words rs)
replaced_cut s rs =
    let w = record_words rs in
    let n = length_record_words rs in
    elim (cases_lt 257 (length rs)) [
      | inl h ↦
          let cut : length (take room w) ≡ room = length-take-le room w (omega (arith, n)) in
          full_refused s (take room w) (omega (arith, cut)) (omega (arith, cut))
          ∙ sym (full_refused s w (omega (arith, n)) (omega (arith, n)))
      | inr h ↦ ap (replace_slot s) (take_all room w (omega (arith, n)))
    ]
