-- Any call: what it leaves alone and what it goes by, on sheets of any words. Assumes nothing.
use Rattle.std.proofs.Common.{◌≡◌, refl, ap, ◌∙◌, ℕ, arith, false, List, inl, inr, eqb, length, eqb-true, eq-eqb}
use Rattle.std.proofs.Common.{ne_eqb}
use Rattle.rules.specs.Sheet.{clinic_of, slot_count, slot_at}
use Rattle.rules.specs.Refusals.{set_up_answer, set_up}
use Rattle.std.proofs.lemmas.Bool.{cases_Bool}
use Rattle.sheet.specs.Book.{Call, call_set_up, call_take, call_on, answer_reply, edit_reply, number_of, refusal}
use Rattle.sheet.specs.Book.{fault_of}
use Rattle.sheet.specs.OnSheet.{in_slot, step}
use Rattle.sheet.specs.Meanings.{beyond, AlikeFor, LeftAlike}
use Rattle.sheet.proofs.SetUpLaws.{accepted}
use Rattle.sheet.proofs.FreshSlots.{length_fresh_slots}
use Rattle.sheet.proofs.OnSlot.{on_length, on_unchanged}
use Rattle.sheet.proofs.TextFaults.{unless, unless_both}
use Rattle.sheet.proofs.TwoSheets.{on_alike, on_left_alike}
use Rattle.sheet.proofs.TakenSlots.{take_keeps, take_length, take_alike, take_left_alike}
use Rattle.sheet.proofs.SlotCalls.{keeps}

-- "Every refusal leaves the whole sheet unchanged."
pub refused_unchanged : (c : Call) (ws : List ℕ) → (number_of (step c ws).0 ≡ 0 → ⊥) → (step c ws).1 ≡ ws
unfolding set_up
refused_unchanged (call_set_up clinics measures indents) ws = λ z. rw (ne_eqb _ _ z)
refused_unchanged (call_take caller) ws = take_keeps ws caller.0
refused_unchanged (call_on caller k q) ws =
    unless edit_reply (λ o. (number_of o.0 ≡ 0 → ⊥) → o.1 ≡ ws) (fault_of q) ws _ (λ p z. refl)
    (on_unchanged (refusal q) ws caller.0 k.0 (in_slot q) number_of (keeps q).number (keeps q).unchanged)

-- no call changes the sheet's length
pub step_length : (c : Call) (ws : List ℕ) → length (step c ws).1 ≡ length ws
unfolding set_up
step_length (call_set_up clinics measures indents) ws =
    elim (cases_Bool (eqb (set_up_answer (length ws) clinics measures indents).number 0)) [
      | inl e ↦
          let f = accepted clinics measures indents (length ws) (eqb-true _ _ e) in
          rw e (length_fresh_slots clinics measures indents 0 (slot_count ws) ∙ omega (arith, f.slots, f.exact))
      | inr e ↦ rw e
    ]
step_length (call_take caller) ws = take_length ws caller.0
step_length (call_on caller k q) ws =
    unless edit_reply (λ o. length o.1 ≡ length ws) (fault_of q) ws _ (λ p. refl)
    (on_length (refusal q) ws caller.0 k.0 (in_slot q) (keeps q).whole)

-- what a call answers is the same on sheets that are alike for it
pub same_reply : (c : Call) (ws vs : List ℕ) → AlikeFor c ws vs → (step c ws).0 ≡ (step c vs).0
unfolding set_up
same_reply (call_set_up clinics measures indents) ws vs a =
    ap (λ n. answer_reply (set_up_answer n clinics measures indents)) a
same_reply (call_take caller) ws vs a = ap answer_reply (take_alike ws vs caller.0 a)
same_reply (call_on caller k q) ws vs a =
    unless_both edit_reply (λ o r. o.0 ≡ r.0) (fault_of q) ws vs _ _ (λ p. refl)
    (on_alike ws vs caller.0 k.0 a (refusal q) (in_slot q))

-- and so is what it leaves where it may write
pub left_alike : (c : Call) (ws vs : List ℕ) → AlikeFor c ws vs →
    LeftAlike c (step c ws).0 ws (step c ws).1 (step c vs).1
unfolding set_up
left_alike (call_set_up clinics measures indents) ws vs a = λ z. rw (← a, eq-eqb _ _ z)
left_alike (call_take caller) ws vs a = take_left_alike ws vs caller.0 a
left_alike (call_on caller k q) ws vs a =
    unless_both edit_reply
    (λ o r. beyond (length ws) k.0 ≡ false → (caller.0 ≡ 0 → ⊥) → caller.0 ≡ clinic_of (slot_at ws k.0) →
    slot_at o.1 k.0 ≡ slot_at r.1 k.0)
    (fault_of q) ws vs _ _ (λ p. a.same_words)
    (on_left_alike ws vs caller.0 k.0 a (refusal q) (in_slot q) (keeps q).whole)
