-- Laws of a giving back: its number beside an edit's, its place, and what it leaves. Assumes nothing.
use Rattle.std.proofs.Common.{◌≡◌, refl, sym, ap, ◌∙◌, ℕ, Bool, true, false, not, List, inl, inr, leb, eqb, length}
use Rattle.std.proofs.Common.{eqb-true, eq-eqb, ne_eqb}
use borrow.Author.Tests.{eqb-false}
use Rattle.rules.specs.Sheet.{in_use_of, slot_count, length_ok, slot_at}
use Rattle.rules.specs.Refusals.{Answer, EditAnswer, as_edit, Outcome, sound, slot_rows, edit_slot, edit}
use Rattle.rules.specs.Refusals.{entry_rows, entry_answer}
use Rattle.rules.specs.Pool.{emptied, give_back_rows, give_back_slot, giving_back}
use Rattle.std.proofs.lemmas.Bool.{cases_Bool}
use Rattle.sheet.specs.Book.{gives_back}
use Rattle.sheet.specs.FreeSlots.{up_to_4}
use Rattle.sheet.proofs.EntryLaws.{four, foreign}
use Rattle.sheet.proofs.OnSlot.{Done, entering, refusing, on_cases, on_entering, on_refusing, slot_is_inside}
use Rattle.sheet.proofs.NumbersNotGiven.{slot_not, slot_not_4}
use Rattle.sheet.proofs.SlotEdits.{slot_unsound}
use Rattle.sheet.proofs.SlotCalls.{keeps}

-- Beside an edit ----------------------------------------------------------------------------------------------------

-- the rows 1 to 3 and 14 are up to 4, and name no place
four_early : (a b c d : Bool) →
    let r = four a b c d in
    (r.number ≡ up_to_4 r.number) × (r.place ≡ 0)
four_early true b c d = (refl, refl)
four_early false true c d = (refl, refl)
four_early false false true d = (refl, refl)
four_early false false false true = (refl, refl)
four_early false false false false = (refl, refl)

early_entry : (ws : List ℕ) (caller k : ℕ) →
    let r = entry_answer ws caller k in
    (r.number ≡ up_to_4 r.number) × (r.place ≡ 0)
unfolding entry_answer entry_rows
early_entry ws caller k =
    four_early (not (length_ok (length ws))) (leb (slot_count ws) k) (foreign ws caller k)
    (eqb (in_use_of (slot_at ws k)) 0)

module _ (s : List ℕ) (place deleted : ℕ) (inserted : List ℕ) where
  abbrev number : ℕ
  number = (edit_slot s place deleted inserted).0.number

  -- on a sound slot an edit's number is none of these
  late : sound s ≡ true → up_to_4 number ≡ 0
  unfolding slot_rows
  late e =
      let other : (n : ℕ) → (number ≡ n → ⊥) → eqb number n ≡ false = λ n h. ne_eqb number n h in
      rw (
        other 1 (slot_not 1 refl s place deleted inserted refl),
        other 2 (slot_not 2 refl s place deleted inserted refl),
        other 3 (slot_not 3 refl s place deleted inserted refl),
        other 14 (slot_not 14 refl s place deleted inserted refl),
        other 4 (slot_not_4 s place deleted inserted e),
      )

  given_4 : sound s ≡ false → (give_back_slot s).0.number ≡ 4
  unfolding give_back_slot give_back_rows
  given_4 e = rw e

  slot_as_edit : (give_back_slot s).0.number ≡ up_to_4 number
  unfolding give_back_slot give_back_rows
  slot_as_edit =
      elim (cases_Bool (sound s)) [
        | inl e ↦ rw e (sym (late e))
        | inr e ↦ given_4 e ∙ ap up_to_4 (sym (slot_unsound s place deleted inserted e))
      ]

module _ (ws : List ℕ) (caller k place deleted : ℕ) (inserted : List ℕ) where
  abbrev here : List ℕ → Outcome EditAnswer
  here s = edit_slot s place deleted inserted

  -- "giving back is refused as edit is, up to 4"
  pub number_as_edit : (giving_back ws caller k).0.number ≡ up_to_4 (edit ws caller k place deleted inserted).0.number
  unfolding giving_back edit
  number_as_edit =
      elim (cases_Bool (eqb (entry_answer ws caller k).number 0)) [
        | inl e ↦
            let z = eqb-true _ _ e in
            ap (λ (o : Outcome Answer). o.0.number) (on_entering (λ a. a) ws caller k give_back_slot z)
            ∙ slot_as_edit (slot_at ws k) place deleted inserted
            ∙ ap (λ (o : Outcome EditAnswer). up_to_4 o.0.number) (sym (on_entering as_edit ws caller k here z))
        | inr e ↦
            let z = eqb-false _ _ e in
            ap (λ (o : Outcome Answer). o.0.number) (on_refusing (λ a. a) ws caller k give_back_slot z)
            ∙ (early_entry ws caller k).0
            ∙ ap (λ (o : Outcome EditAnswer). up_to_4 o.0.number) (sym (on_refusing as_edit ws caller k here z))
      ]

-- What a giving back answers and leaves -----------------------------------------------------------------------------

module _ (ws : List ℕ) (caller k : ℕ) where
  given_place : (s : List ℕ) → (give_back_slot s).0.place ≡ 0
  unfolding give_back_slot give_back_rows
  given_place s = elim (cases_Bool (sound s)) [ inl e ↦ rw e | inr e ↦ rw e ]

  pub give_place : (giving_back ws caller k).0.place ≡ 0
  unfolding giving_back
  give_place = from (on_cases (λ a. a) ws caller k give_back_slot)
    where
      from : {o : Outcome Answer} → Done (λ a. a) ws caller k give_back_slot o → o.0.place ≡ 0
      from (entering z) = given_place (slot_at ws k)
      from (refusing z) = (early_entry ws caller k).1

  given_emptied : (s : List ℕ) → (give_back_slot s).0.number ≡ 0 → (give_back_slot s).1 ≡ emptied s
  unfolding give_back_slot
  given_emptied s z = rw (eq-eqb _ _ z)

  -- accepted, the slot is emptied
  pub give_empties : (giving_back ws caller k).0.number ≡ 0 →
      slot_at (giving_back ws caller k).1 k ≡ emptied (slot_at ws k)
  unfolding giving_back
  give_empties z =
      let y = reaches (on_cases (λ a. a) ws caller k give_back_slot) z in
      slot_is_inside (λ a. a) ws caller k give_back_slot (keeps gives_back).whole y
      ∙ given_emptied (slot_at ws k) (inside y)
    where
      reaches : {o : Outcome Answer} → Done (λ a. a) ws caller k give_back_slot o → o.0.number ≡ 0 →
          (entry_answer ws caller k).number ≡ 0
      reaches (entering e) n = e
      reaches (refusing e) n = absurd (e n)

      inside : (entry_answer ws caller k).number ≡ 0 → (give_back_slot (slot_at ws k)).0.number ≡ 0
      inside y =
          ap (λ (o : Outcome Answer). o.0.number) (sym (on_entering (λ a. a) ws caller k give_back_slot y)) ∙ z
