-- What an accepted edit does on a sheet of any words and reports, and what a read hands back after it; a refused one
-- reports nothing. Assumes nothing.
use Rattle.std.proofs.Common.{◌≡◌, refl, sym, ap, subst, ◌∙◌, ℕ, ◌/◌, ◌≤◌, arith, true, List, inl, inr, eqb, length}
use Rattle.std.proofs.Common.{eqb-true}
use borrow.Author.Tests.{eqb-false}
use Rattle.rules.specs.Layout.{most_records, record_length, slot_length}
use Rattle.rules.specs.Records.{records}
use Rattle.rules.specs.Groups.{TextUnit, units}
use Rattle.rules.specs.Adjustment.{compose}
use Rattle.rules.specs.Sheet.{Setting, line_words, slot_words, clinic_of, measure_of, indent_of, setting_of}
use Rattle.rules.specs.Sheet.{line_count_of}
use Rattle.rules.specs.Sheet.{in_use_of, records_of, slot_at}
use Rattle.rules.specs.Stable.{used_by, used_of, ruled_lines, AsRuled, StableEdit}
use Rattle.rules.specs.Refusals.{says, EditAnswer, as_edit, Outcome, lines_redone, edited, edit_redone, slot_rows}
use Rattle.rules.specs.Refusals.{edit_slot}
use Rattle.rules.specs.Refusals.{entry_rows, entry_answer, on_slot, read_number, read_words}
use Rattle.std.proofs.lemmas.Bool.{cases_Bool}
use Rattle.rules.proofs.WordCounts.{composed_few}
use Rattle.rules.proofs.RecordWords.{length_records}
use Rattle.rules.proofs.RedoneLines.{edit_stable}
use Rattle.sheet.specs.Meanings.{Spliced}
use Rattle.sheet.proofs.Tables.{same_number, lacking, passed}
use Rattle.sheet.proofs.ReadLaws.{number_0, read_line_words}
use Rattle.rules.proofs.SlotWords.{slot_setting, slot_in_use, slot_line_count, slot_lines, slot_used, slot_as_ruled}
use Rattle.sheet.proofs.OnSlot.{on_entering, on_refusing, on_length, slot_is_inside}
use Rattle.sheet.proofs.TwoSheets.{entry_alike}
use Rattle.sheet.proofs.SlotEdits.{slot_judged, length_edit_slot, slot_accepted, slot_spliced}
use Rattle.sheet.proofs.SlotEdits.{slot_reports_none}

module _ (ws : List ℕ) (caller k place deleted : ℕ) (inserted : List ℕ) where
  abbrev before : List ℕ
  before = slot_at ws k

  abbrev m : ℕ
  m = measure_of before

  abbrev x : ℕ
  x = indent_of before

  abbrev us : List TextUnit
  us = units (edited before place deleted inserted)

  abbrev here : List ℕ → Outcome EditAnswer
  here s = edit_slot s place deleted inserted

  abbrev out : Outcome EditAnswer
  out = on_slot as_edit ws caller k here

  whole : (s : List ℕ) → length s ≡ slot_length → length (here s).1 ≡ slot_length
  whole s h = length_edit_slot s place deleted inserted h

  -- an answer that the rows 1 to 3 and 14 do not give is the slot's
  pub record FromSlot (n : ℕ) : Type 0 where
    pub entry : (entry_answer ws caller k).number ≡ 0
    pub number : (here before).0.number ≡ n
    pub answer : out.0 ≡ (here before).0
    pub slot : slot_at out.1 k ≡ (here before).1

  pub from_slot : (n : ℕ) → lacking n (entry_rows ws caller k) ≡ true → out.0.number ≡ n → FromSlot n
  unfolding entry_answer
  from_slot n l z =
      elim (cases_Bool (eqb (entry_answer ws caller k).number 0)) [
        | inl t ↦
            let e = eqb-true _ _ t in
            let a : out.0 ≡ (here before).0
            = ap (λ (o : Outcome EditAnswer). o.0) (on_entering as_edit ws caller k here e) in
            record {
              entry = e;
              number = ap (λ (b : EditAnswer). b.number) (sym a) ∙ z;
              answer = a;
              slot = slot_is_inside as_edit ws caller k here whole e;
            }
        | inr t ↦
            let e = eqb-false _ _ t in
            let y : (entry_answer ws caller k).number ≡ n
            = ap (λ (o : Outcome EditAnswer). o.0.number) (sym (on_refusing as_edit ws caller k here e)) ∙ z in
            absurd (e (y ∙ sym (passed n (entry_rows ws caller k) (says 0 0) l y).1))
      ]

  -- an accepted edit
  pub accepted_edit : out.0.number ≡ 0 → Spliced before (slot_at out.1 k) out.0 place deleted inserted
  unfolding entry_rows slot_rows
  accepted_edit z =
      let f = from_slot 0 refl z in
      let j = slot_judged before place deleted inserted 0 refl f.number in
      let a = slot_accepted before place deleted inserted f.number in
      rw (f.answer, f.slot) (slot_spliced before place deleted inserted j a)

  -- its lines around those that it composes anew stay, and it reports these
  pub accepted_stable : out.0.number ≡ 0 →
      let old = ruled_lines before in
      let new = compose m x us in
      StableEdit place deleted (length inserted / record_length) old new (used_by old) (used_by new) out.0.redone
  unfolding entry_rows lines_redone
  accepted_stable z =
      let f = from_slot 0 refl z in
      let n = length inserted / record_length in
      let e : out.0.redone ≡ edit_redone before place deleted inserted
      = ap (λ (a : EditAnswer). a.redone) f.answer
      ∙ ap (λ (o : Outcome EditAnswer). o.0.redone) (slot_accepted before place deleted inserted f.number) in
      rw (e, length_records)
      (rw (length_records inserted 0 n) at
      (edit_stable m x (records_of before) place deleted (records inserted 0 n) (accepted_edit z).fits))

  -- and the slot's words are those of its new lines
  accepted_words : out.0.number ≡ 0 →
      (length (edited before place deleted inserted) ≤ most_records)
      × (slot_at out.1 k ≡ slot_words (setting_of before) (edited before place deleted inserted))
  unfolding entry_rows slot_rows
  accepted_words z =
      let f = from_slot 0 refl z in (
        (slot_judged before place deleted inserted 0 refl f.number).few,
        f.slot
            ∙ ap (λ (o : Outcome EditAnswer). o.1) (slot_accepted before place deleted inserted f.number),
      )

  pub accepted_used : out.0.number ≡ 0 → used_of (slot_at out.1 k) ≡ used_by (compose m x us)
  accepted_used z =
      let w = accepted_words z in
      ap used_of w.1 ∙ slot_used (setting_of before) (edited before place deleted inserted) w.0

  pub accepted_as_ruled : out.0.number ≡ 0 → AsRuled (slot_at out.1 k)
  accepted_as_ruled z =
      let w = accepted_words z in
      subst AsRuled (sym w.1) (slot_as_ruled (setting_of before) (edited before place deleted inserted) w.0)

  -- a refused one reports none
  pub refused_none : (out.0.number ≡ 0 → ⊥) → out.0.redone ≡ 0
  refused_none z =
      elim (cases_Bool (eqb (entry_answer ws caller k).number 0)) [
        | inl t ↦
            let a : out.0 ≡ (here before).0
            = ap (λ (o : Outcome EditAnswer). o.0) (on_entering as_edit ws caller k here (eqb-true _ _ t)) in
            ap (λ (b : EditAnswer). b.redone) a
            ∙ slot_reports_none before place deleted inserted (λ e. z (ap (λ (b : EditAnswer). b.number) a ∙ e))
        | inr t ↦
            ap (λ (o : Outcome EditAnswer). o.0.redone) (on_refusing as_edit ws caller k here (eqb-false _ _ t))
      ]

  -- a read after it, by the same caller, hands back the line words of the composed records
  pub read_after : out.0.number ≡ 0 →
      (read_number out.1 caller k ≡ 0) × (read_words out.1 caller k ≡ line_words 0 (compose m x us))
  unfolding entry_rows slot_rows
  read_after z =
      let f = from_slot 0 refl z in
      let rs = edited before place deleted inserted in
      let few = (accepted_words z).0 in
      let s = (accepted_words z).1 in
      let clinic : clinic_of (slot_at out.1 k) ≡ clinic_of before
      = ap clinic_of s ∙ ap (λ (t : Setting). t.clinic) (slot_setting (setting_of before) rs) in
      let in_use : in_use_of (slot_at out.1 k) ≡ in_use_of before = ap in_use_of s
      ∙ slot_in_use (setting_of before) rs in
      let entry_again : entry_answer out.1 caller k ≡ entry_answer ws caller k
      = entry_alike out.1 ws caller k (on_length as_edit ws caller k here whole) (λ h. clinic) (λ h l o. in_use) in
      let lines : line_count_of (slot_at out.1 k) ≤ most_records
      = rw (s, slot_line_count) (omega (arith, composed_few m x rs)) in
      let used : in_use_of (slot_at out.1 k) ≤ 1
      = rw in_use (slot_judged before place deleted inserted 0 refl f.number).used in
      let n = number_0 out.1 caller k (same_number entry_again ∙ f.entry) lines used in
      (n, read_line_words out.1 caller k n ∙ rw (s, slot_line_count) (slot_lines (setting_of before) rs few))
