-- What an edit does to a slot of any words: that it keeps the slot's length, that a refused one changes nothing, what
-- an accepted one leaves, and what its answer says of the new records. Assumes nothing.
use Rattle.std.proofs.Common.{◌≡◌, refl, sym, ap, ◌∙◌, ℕ, ◌+◌, ◌*◌, ◌/◌, ◌%◌, ◌≤◌, ◌<◌, arith, true, false, List, inl}
use Rattle.std.proofs.Common.{inr, ltb, eqb, length, drop, take_all, eqb-true, eq-eqb, ne_eqb, ltb-false}
use borrow.Author.Tests.{not-false}
use Rattle.rules.specs.Basics.{first_of}
use Rattle.rules.specs.Layout.{most_records, record_length, slot_length}
use Rattle.rules.specs.Records.{Rec, records, record_words}
use Rattle.rules.specs.Groups.{units}
use Rattle.rules.specs.Adjustment.{compose}
use Rattle.rules.specs.Sheet.{Setting, slot_words, clinic_of, measure_of, indent_of, setting_of, count_of, in_use_of}
use Rattle.rules.specs.Sheet.{records_of}
use Rattle.rules.specs.Refusals.{Answer, EditAnswer, edit_says, Outcome, judged, sound, edited, edit_redone, slot_rows}
use Rattle.rules.specs.Refusals.{edit_slot}
use Rattle.std.proofs.lemmas.Bool.{cases_Bool}
use Rattle.rules.proofs.RecordWords.{length_records, words_records}
use Rattle.rules.proofs.Judged.{judged_0}
use Rattle.slot.proofs.StoredRecords.{sound_in_use}
use Rattle.sheet.specs.Meanings.{Spliced}
use Rattle.sheet.proofs.Tables.{same_number, lacking, passed, under_table}
use Rattle.sheet.proofs.Lengths.{or_right}
use Rattle.rules.proofs.SlotWords.{length_slot, slot_setting, slot_records}
use Rattle.sheet.proofs.BookSlots.{splice_few}

-- an in-use word above 1 counts under 4
pub use_unsound : (s : List ℕ) → 1 < in_use_of s → sound s ≡ false
use_unsound s u =
    elim (cases_Bool (sound s)) [ inl e ↦ absurd (omega (arith, sound_in_use s e)) | inr e ↦ e ]

module _ (s : List ℕ) (place deleted : ℕ) (inserted : List ℕ) where
  abbrev done : Outcome EditAnswer
  done = edit_slot s place deleted inserted

  abbrev new : List Rec
  new = edited s place deleted inserted

  abbrev composed : List ℕ
  composed = slot_words (setting_of s) new

  abbrev line_count : ℕ
  line_count = length (compose (measure_of s) (indent_of s) (units new))

  abbrev redone : ℕ
  redone = edit_redone s place deleted inserted

  abbrev rows : Answer
  rows = first_of (slot_rows s place deleted inserted) (judged (measure_of s) (indent_of s) new)

  -- where the rows 4 to 7 do not apply, the in-use word is at most 1, the stretch is within the records, the inserted
  -- words are whole records, few enough, and the answer is the new records' own
  pub record Judged : Type 0 where
    pub used : in_use_of s ≤ 1
    pub fits : place + deleted ≤ length (records_of s)
    pub whole : record_words (records inserted 0 (length inserted / record_length)) ≡ inserted
    pub few : length new ≤ most_records
    pub answer : rows ≡ judged (measure_of s) (indent_of s) new

  whole_records : length inserted % record_length ≡ 0 →
      record_words (records inserted 0 (length inserted / record_length)) ≡ inserted
  whole_records h =
      words_records inserted (length inserted / record_length) (omega arith)
      ∙ take_all (record_length * (length inserted / record_length)) inserted (omega (arith, h))

  pub slot_judged : (n : ℕ) → lacking n (slot_rows s place deleted inserted) ≡ true → done.0.number ≡ n → Judged
  unfolding edit_slot slot_rows
  slot_judged n l z =
      let p = (passed n (slot_rows s place deleted inserted) _ l z).0 in
      let c : place + deleted ≤ count_of s = ltb-false _ _ (or_right (ltb (count_of s) place) _ p.1.0) in
      let k : count_of s ≡ length (records_of s) = sym (length_records (drop 8 s) 0 (count_of s)) in
      record {
        used = sound_in_use s (not-false _ p.0);
        fits = omega (arith, k);
        whole = whole_records (eqb-true _ _ (not-false _ p.1.1.0));
        few = splice_few (records_of s) place deleted inserted (rw k at p.1.0) (rw k at p.1.1.1.0);
        answer = under_table (slot_rows s place deleted inserted) _ p;
      }

  -- accepted
  pub slot_accepted : done.0.number ≡ 0 → done ≡ (edit_says 0 line_count redone, composed)
  unfolding edit_slot slot_rows
  slot_accepted z =
      let j = (slot_judged 0 refl z).answer in
      let a = (judged_0 (measure_of s) (indent_of s) new (same_number (sym j) ∙ z)).1 in
      rw (eq-eqb _ _ z) (ap (λ (o : Answer). (edit_says o.number o.place redone, composed)) (j ∙ a))

  pub slot_spliced : {o : Outcome EditAnswer} → Judged →
      ◌≡◌ {A = Outcome EditAnswer} o (edit_says 0 line_count redone, composed) →
      Spliced s o.1 o.0 place deleted inserted
  slot_spliced j e =
      rw e
      (let r = slot_records (setting_of s) new in
      record {
        fits = j.fits;
        new = records inserted 0 (length inserted / record_length);
        whole = j.whole;
        changed = r;
        composed = ap (slot_words (setting_of s)) (sym r);
        lines = ap (λ rs. length (compose (measure_of s) (indent_of s) (units rs))) (sym r);
      })

  -- refused or not
  pub slot_refused : (done.0.number ≡ 0 → ⊥) → done.1 ≡ s
  unfolding edit_slot
  slot_refused z = rw (ne_eqb _ _ z)

  pub slot_unsound : sound s ≡ false → done.0.number ≡ 4
  unfolding edit_slot slot_rows
  slot_unsound e = rw e

  pub slot_misused : 1 < in_use_of s → done.0.number ≡ 4
  slot_misused u = slot_unsound (use_unsound s u)

  pub slot_clinic : clinic_of done.1 ≡ clinic_of s
  unfolding edit_slot
  slot_clinic =
      elim (cases_Bool (eqb rows.number 0)) [
        | inl e ↦ rw e (ap (λ (t : Setting). t.clinic) (slot_setting (setting_of s) new))
        | inr e ↦ rw e
      ]

  pub slot_reports_none : (done.0.number ≡ 0 → ⊥) → done.0.redone ≡ 0
  unfolding edit_slot
  slot_reports_none z = rw (ne_eqb _ _ z)

  pub length_edit_slot : length s ≡ slot_length → length done.1 ≡ slot_length
  unfolding edit_slot slot_rows
  length_edit_slot h =
      elim (cases_Bool (eqb rows.number 0)) [
        | inl e ↦ rw e (length_slot (setting_of s) new (slot_judged 0 refl (eqb-true _ _ e)).few)
        | inr e ↦ rw e h
      ]
