-- When an edit answers 12, 10 and 0: exactly where no earlier answer is due, 12 by whether each record is listed, and
-- 10 or 0 by whether a breaking exists.
-- Assumes nothing.
use Rattle.std.proofs.Common.{◌≡◌, refl, sym, ap, ◌∙◌, ℕ, arith, true, false, List, [], ◌∷◌, ◌↔◌, Option, None, Some}
use Rattle.std.proofs.Common.{length}
use Rattle.rules.specs.Basics.{is_in, first_of, Run}
use Rattle.rules.specs.Records.{Rec}
use Rattle.rules.specs.Listed.{not_listed}
use Rattle.rules.specs.Groups.{TextUnit, units}
use Rattle.rules.specs.Breaks.{runs, no_breaking}
use Rattle.rules.specs.Adjustment.{compose}
use Rattle.rules.specs.Sheet.{measure_of, indent_of, slot_at}
use Rattle.rules.specs.Refusals.{Answer, says, EditAnswer, as_edit, Outcome, or_else, judged, edited, slot_rows}
use Rattle.rules.specs.Refusals.{edit_slot, entry_rows, entry_answer, on_slot}
use Rattle.rules.specs.Meanings.{All, Choice, Fits, FirstWide, FirstLacking, Listed}
use Rattle.rules.proofs.Claims.{no_12_exactly, answer_12_exactly, no_10_exactly, answer_10}
use Rattle.std.proofs.lemmas.Option.{none-some}
use Rattle.rules.proofs.Judged.{judged_passes, judged_0, judged_12, judged_10}
use Rattle.sheet.specs.Meanings.{NoneBefore12, NoEarlier}
use Rattle.sheet.proofs.Tables.{same_number, lacking, passed, under_table}
use Rattle.sheet.proofs.OnSlot.{on_entering}
use Rattle.sheet.proofs.SlotEdits.{slot_judged}
use Rattle.sheet.proofs.EditChanges.{from_slot}

module _ (ws : List ℕ) (caller k place deleted : ℕ) (inserted : List ℕ) where
  abbrev before : List ℕ
  before = slot_at ws k

  abbrev m : ℕ
  m = measure_of before

  abbrev x : ℕ
  x = indent_of before

  abbrev new : List Rec
  new = edited before place deleted inserted

  abbrev us : List TextUnit
  us = units new

  abbrev here : List ℕ → Outcome EditAnswer
  here s = edit_slot s place deleted inserted

  abbrev out : Outcome EditAnswer
  out = on_slot as_edit ws caller k here

  pub found_0 : out.0.number ≡ 0 → no_breaking m x us ≡ None
  unfolding entry_rows slot_rows edit_slot
  found_0 z =
      let f = from_slot ws caller k place deleted inserted 0 refl z in
      let j = (slot_judged before place deleted inserted 0 refl f.number).answer in
      (judged_0 m x _ (same_number (sym j) ∙ f.number)).0

  -- the place of 10 is the first record of the first run that is too wide
  pub place_10 : out.0.number ≡ 10 → FirstWide m x (runs us) out.0.place
  unfolding entry_rows slot_rows edit_slot
  place_10 z =
      let f = from_slot ws caller k place deleted inserted 10 refl z in
      let j = (slot_judged before place deleted inserted 10 refl f.number).answer in
      let a : out.0.place ≡ (judged m x new).place
      = ap (λ (b : EditAnswer). b.place) f.answer ∙ ap (λ (b : Answer). b.place) j in
      let e = judged_10 m x _ (same_number (sym j) ∙ f.number) in
      (answer_10 m x us out.0.place (e ∙ ap Some (sym a))).1

  -- 12 names the first record that is not listed
  pub place_12 : out.0.number ≡ 12 → FirstLacking Listed new out.0.place
  unfolding entry_rows slot_rows edit_slot
  place_12 z =
      let f = from_slot ws caller k place deleted inserted 12 refl z in
      let j = (slot_judged before place deleted inserted 12 refl f.number).answer in
      let a : out.0.place ≡ (judged m x new).place
      = ap (λ (b : EditAnswer). b.place) f.answer ∙ ap (λ (b : Answer). b.place) j in
      let e = (judged_12 m x new (same_number (sym j) ∙ f.number)).1 in
      (answer_12_exactly new out.0.place).0 (e ∙ ap Some (sym a))

  abbrev Reached12 : Type 0
  Reached12 = NoneBefore12 ws caller k place deleted inserted

  reached : out.0.number ≡ 12 → Reached12
  unfolding entry_rows slot_rows edit_slot
  reached z =
      let rows = slot_rows before place deleted inserted in
      let f = from_slot ws caller k place deleted inserted 12 refl z in
      let p = passed 12 rows (judged m x new) refl f.number in
      record {
        call = f.entry;
        slot = same_number (under_table rows (says 0 0) p.0);
        records = (judged_12 m x new p.1).0;
      }

  -- past the rows 1 to 7 the answer is that of the new records
  past_7 : (entry_answer ws caller k).number ≡ 0 →
      (first_of (slot_rows before place deleted inserted) (says 0 0)).number ≡ 0 →
      out.0.number ≡ (judged m x new).number
  unfolding slot_rows edit_slot
  past_7 e r =
      let rows = slot_rows before place deleted inserted in
      ap (λ (o : Outcome EditAnswer). o.0.number) (on_entering as_edit ws caller k here e)
      ∙ same_number (under_table rows _ (passed 0 rows (says 0 0) refl r).0)

  due_12 : Reached12 → (i : ℕ) → not_listed 0 new ≡ Some i → out.0.number ≡ 12
  unfolding judged
  due_12 h i e = past_7 h.call h.slot ∙ rw (h.records, e)

  by_listed : Reached12 → (All Listed new → ⊥) → (o : Option ℕ) → not_listed 0 new ≡ o → out.0.number ≡ 12
  by_listed h n None e = absurd (n ((no_12_exactly new).0 e))
  by_listed h n (Some i) e = due_12 h i e

  -- 12 is given exactly where no earlier answer is due and some record is not listed
  pub exactly_12 : (out.0.number ≡ 12) ↔ (Reached12 × (All Listed new → ⊥))
  exactly_12 = (
    λ z. (
      reached z,
      λ a.
          none-some _ (sym ((no_12_exactly new).1 a) ∙ (answer_12_exactly new out.0.place).1 (place_12 z)),
    ),
    λ h. by_listed h.0 h.1 (not_listed 0 new) refl,
  )

  abbrev pub Breakable : Type 0
  Breakable = (ls : List (Run TextUnit)) × Choice us ls × Fits m x ls

  abbrev NoneDue : Type 0
  NoneDue = NoEarlier ws caller k place deleted inserted

  -- a number that no earlier row gives is given only where none of them is due
  none_due : (n : ℕ) → lacking n (entry_rows ws caller k) ≡ true →
      lacking n (slot_rows before place deleted inserted) ≡ true → is_in n (8 ∷ 12 ∷ 9 ∷ []) ≡ false →
      out.0.number ≡ n → NoneDue
  unfolding edit_slot
  none_due n l r h z =
      let rows = slot_rows before place deleted inserted in
      let f = from_slot ws caller k place deleted inserted n l z in
      let p = passed n rows (judged m x new) r f.number in
      let j = judged_passes m x new n h p.1 in
      record {
        call = f.entry;
        slot = same_number (under_table rows (says 0 0) p.0);
        records = j.records;
        listed = j.listed;
        groups = j.groups;
      }

  -- and where none of them is due, the answer is that of the breaking
  due_10 : NoneDue → out.0.number ≡ (or_else 10 (no_breaking m x us) (says 0 (length (compose m x us)))).number
  unfolding judged
  due_10 h = past_7 h.call h.slot ∙ rw (h.records, h.listed, h.groups)

  by_breaking : (o : Option ℕ) → no_breaking m x us ≡ o →
      out.0.number ≡ (or_else 10 o (says 0 (length (compose m x us)))).number →
      ((out.0.number ≡ 10) ↔ (Breakable → ⊥)) × ((out.0.number ≡ 0) ↔ Breakable)
  by_breaking None e a =
      let b : Breakable = (no_10_exactly m x us).0 e in (
        (λ t. absurd (omega (arith, t, a)), λ f. absurd (f b)),
        (λ t. b, λ b. a),
      )
  by_breaking (Some i) e a =
      let f : Breakable → ⊥ = (answer_10 m x us i e).0 in (
        (λ t. f, λ f. a),
        (λ t. absurd (omega (arith, t, a)), λ b. absurd (f b)),
      )

  exactly : NoneDue → ((out.0.number ≡ 10) ↔ (Breakable → ⊥)) × ((out.0.number ≡ 0) ↔ Breakable)
  exactly h = by_breaking (no_breaking m x us) refl (due_10 h)

  -- so 10 is given exactly where no earlier answer is due and no choice of permitted breaks fits the measure, and 0
  -- exactly where none is due and one does
  pub exactly_10 : (out.0.number ≡ 10) ↔ (NoneDue × (Breakable → ⊥))
  unfolding entry_rows slot_rows
  exactly_10 = (
    λ z. let e = none_due 10 refl refl refl z in (e, (exactly e).0.0 z),
    λ h. (exactly h.0).0.1 h.1,
  )

  pub exactly_0 : (out.0.number ≡ 0) ↔ (NoneDue × Breakable)
  unfolding entry_rows slot_rows
  exactly_0 = (
    λ z. let e = none_due 0 refl refl refl z in (e, (exactly e).1.0 z),
    λ h. (exactly h.0).1.1 h.1,
  )
