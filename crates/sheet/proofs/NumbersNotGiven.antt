-- Numbers that tables do not give: records none but 8, 12, 9, 10 and 0; an edit not 17, nor 14 past the rows
-- before it; set-up's lists and a take not 4.
-- Assumes nothing.
use Rattle.std.proofs.Common.{◌≡◌, refl, sym, ℕ, ◌+◌, ◌-◌, ◌/◌, ◌%◌, arith, Bool, true, false, not, ◌||◌, List, []}
use Rattle.std.proofs.Common.{◌∷◌, Option, None, Some, ltb, eqb, length}
use Rattle.rules.specs.Basics.{is_in}
use Rattle.rules.specs.Layout.{most_records, record_length, slot_length}
use Rattle.rules.specs.Records.{Rec, bad_record}
use Rattle.rules.specs.Listed.{not_listed}
use Rattle.rules.specs.Groups.{group_fault, units}
use Rattle.rules.specs.Breaks.{no_breaking}
use Rattle.rules.specs.Adjustment.{compose}
use Rattle.rules.specs.Sheet.{count_of}
use Rattle.rules.specs.Refusals.{Answer, says, EditAnswer, as_edit, Outcome, or_else, judged, sound, slot_rows}
use Rattle.rules.specs.Refusals.{edit_slot, entry_rows, entry_answer, edit, bad_slot, set_up_rows, set_up_answer}
use Rattle.rules.specs.Pool.{OwnSlot, lowest_free, granted, take_rows, take_answer}
use Rattle.std.proofs.lemmas.Bool.{true≢false}
use Rattle.sheet.proofs.Tables.{lacking, passed}
use Rattle.sheet.proofs.OnSlot.{Done, entering, refusing, on_cases}

-- Records -----------------------------------------------------------------------------------------------------------

given_not : (p l q r : Option ℕ) (j n : ℕ) → is_in n (8 ∷ 12 ∷ 9 ∷ 10 ∷ 0 ∷ []) ≡ false →
    (or_else 8 p (or_else 12 l (or_else 9 q (or_else 10 r (says 0 j))))).number ≡ n → ⊥
given_not None None None None j n h e = true≢false (rw (sym e) at h)
given_not None None None (Some i) j n h e = true≢false (rw (sym e) at h)
given_not None None (Some i) r j n h e = true≢false (rw (sym e) at h)
given_not None (Some i) q r j n h e = true≢false (rw (sym e) at h)
given_not (Some i) l q r j n h e = true≢false (rw (sym e) at h)

pub judged_not : (n : ℕ) → is_in n (8 ∷ 12 ∷ 9 ∷ 10 ∷ 0 ∷ []) ≡ false → (m x : ℕ) (rs : List Rec) →
    (judged m x rs).number ≡ n → ⊥
unfolding judged
judged_not n h m x rs e =
    given_not (bad_record 0 rs) (not_listed 0 rs) (group_fault rs) (no_breaking m x (units rs))
    (length (compose m x (units rs))) n h e

-- Edits -------------------------------------------------------------------------------------------------------------

pub slot_not : (n : ℕ) → is_in n (8 ∷ 12 ∷ 9 ∷ 10 ∷ 0 ∷ []) ≡ false →
    (s : List ℕ) (place deleted : ℕ) (inserted : List ℕ) → lacking n (slot_rows s place deleted inserted) ≡ true →
    (edit_slot s place deleted inserted).0.number ≡ n → ⊥
unfolding edit_slot
slot_not n h s place deleted inserted l e =
    judged_not n h _ _ _ (passed n (slot_rows s place deleted inserted) _ l e).1

-- nor 4 on a sound slot
pub slot_not_4 : (s : List ℕ) (place deleted : ℕ) (inserted : List ℕ) → sound s ≡ true →
    (edit_slot s place deleted inserted).0.number ≡ 4 → ⊥
unfolding edit_slot slot_rows
slot_not_4 s place deleted inserted e f =
    let rest : List (Bool × Answer)
    = (ltb (count_of s) place || ltb (count_of s) (place + deleted), says 5 (count_of s))
    ∷ (not (eqb (length inserted % record_length) 0), says 6 0)
    ∷ (ltb most_records (count_of s - deleted + length inserted / record_length), says 7 0)
    ∷ [] in
    judged_not 4 refl _ _ _ (passed 4 rest _ refl (rw e at f)).1

pub slot_not_14 : (s : List ℕ) (place deleted : ℕ) (inserted : List ℕ) →
    (edit_slot s place deleted inserted).0.number ≡ 14 → ⊥
unfolding slot_rows
slot_not_14 s place deleted inserted = slot_not 14 refl s place deleted inserted refl

pub edit_not_17 : (ws : List ℕ) (caller k place deleted : ℕ) (inserted : List ℕ) →
    (edit ws caller k place deleted inserted).0.number ≡ 17 → ⊥
unfolding edit entry_answer entry_rows slot_rows
edit_not_17 ws caller k place deleted inserted = from (on_cases as_edit ws caller k here)
  where
    here : List ℕ → Outcome EditAnswer
    here s = edit_slot s place deleted inserted

    from : {o : Outcome EditAnswer} → Done as_edit ws caller k here o → o.0.number ≡ 17 → ⊥
    from (entering z) e = slot_not 17 refl _ place deleted inserted refl e
    from (refusing z) e =
        let y : ◌≡◌ {A = ℕ} 0 17 = (passed 17 (entry_rows ws caller k) (says 0 0) refl e).1 in omega arith

-- Set-up ------------------------------------------------------------------------------------------------------------

else_not_4 : (n : ℕ) (o : Option ℕ) (a : Answer) → (n ≡ 4 → ⊥) → (a.number ≡ 4 → ⊥) →
    (or_else n o a).number ≡ 4 → ⊥
else_not_4 n None a p q = q
else_not_4 n (Some i) a p q = p

pub set_up_not_4 : (n : ℕ) (clinics measures indents : List ℕ) → (set_up_answer n clinics measures indents).number ≡ 4 →
    ⊥
unfolding set_up_rows set_up_answer
set_up_not_4 n clinics measures indents e =
    else_not_4 11 (bad_slot 0 clinics measures indents (n / slot_length)) (says 0 (n / slot_length))
    (λ f. omega arith) (λ f. omega arith)
    (passed 4 (set_up_rows n clinics measures indents) _ refl e).1

-- Takes -------------------------------------------------------------------------------------------------------------

granted_not_4 : (o : Option ℕ) → (granted o).number ≡ 4 → ⊥
granted_not_4 None e = omega (arith, e)
granted_not_4 (Some k) e = omega (arith, e)

pub take_not_4 : (n caller : ℕ) (own : List OwnSlot) → (take_answer n caller own).number ≡ 4 → ⊥
unfolding take_rows take_answer
take_not_4 n caller own e = granted_not_4 (lowest_free own) (passed 4 (take_rows n caller) _ refl e).1
