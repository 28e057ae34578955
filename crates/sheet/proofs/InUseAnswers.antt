-- Laws of answer 14 and of in-use words above 1, whatever the call on a slot. Assumes nothing.
use Rattle.std.proofs.Common.{◌≡◌, refl, sym, ap, ◌∙◌, ℕ, ◌<◌, arith, true, false, List, ◌↔◌, inl, inr, Option, None}
use Rattle.std.proofs.Common.{Some, leb, eqb, length, leb-true, leb-false, eqb-true, eq-eqb, ne_eqb}
use borrow.Author.Tests.{eqb-false}
use Rattle.rules.specs.Sheet.{clinic_of, in_use_of, slot_count, length_ok, slot_at}
use Rattle.rules.specs.Refusals.{Outcome, entry_answer, on_slot}
use Rattle.std.proofs.lemmas.Bool.{cases_Bool}
use Rattle.std.proofs.lemmas.Option.{none-some}
use Rattle.sheet.specs.Import.{unless_fault}
use Rattle.sheet.specs.Book.{SlotCall, Reply, edit_reply, number_of, refusal, fault_of, call_on}
use Rattle.sheet.specs.OnSheet.{in_slot, step}
use Rattle.sheet.specs.FreeSlots.{Reached}
use Rattle.sheet.specs.declared.entry.Clinic.{Clinic}
use Rattle.sheet.specs.declared.entry.SlotNumber.{SlotNumber}
use Rattle.sheet.proofs.Tables.{same_number}
use Rattle.sheet.proofs.EntryLaws.{foreign, entry_1, entry_2, entry_3, entry_14, entry_0, not_foreign}
use Rattle.sheet.proofs.OnSlot.{Done, entering, refusing, on_cases, on_entering, on_refusing}
use Rattle.sheet.proofs.SlotCalls.{keeps}

-- Answer 14 ---------------------------------------------------------------------------------------------------------

module _ (ws : List ℕ) (caller k : ℕ) where
  abbrev free : Type 0
  free = in_use_of (slot_at ws k) ≡ 0

  own_slot : Reached ws caller k → foreign ws caller k ≡ false
  own_slot r = rw (ne_eqb _ _ r.known, eq-eqb caller (clinic_of (slot_at ws k)) r.own)

  -- the row 14 applies exactly where the slot is reached and not in use
  reached_14 : (entry_answer ws caller k).number ≡ 14 → Reached ws caller k × free
  reached_14 n =
      elim (cases_Bool (length_ok (length ws))) [
        | inr p ↦ absurd (omega (arith, n, same_number (entry_1 ws caller k p)))
        | inl p ↦
            elim (cases_Bool (leb (slot_count ws) k)) [
              | inl q ↦ absurd (omega (arith, n, same_number (entry_2 ws caller k p (leb-true _ _ q))))
              | inr q ↦ within p (leb-false _ _ q)
            ]
      ]
    where
      within : length_ok (length ws) ≡ true → k < slot_count ws → Reached ws caller k × free
      within p q =
          elim (cases_Bool (foreign ws caller k)) [
            | inl r ↦ absurd (omega (arith, n, same_number (entry_3 ws caller k p q r)))
            | inr r ↦
                elim (cases_Bool (eqb (in_use_of (slot_at ws k)) 0)) [
                  | inl t ↦
                      let o = not_foreign ws caller k r in
                      (record { whole = p; within = q; known = o.0; own = o.1 }, eqb-true _ _ t)
                  | inr t ↦ absurd (omega (arith, n, same_number (entry_0 ws caller k p q r (eqb-false _ _ t))))
                ]
          ]

  module _ (q : SlotCall) where
    abbrev out : Outcome Reply
    out = on_slot (refusal q) ws caller k (in_slot q)

    on_14 : (number_of out.0 ≡ 14) ↔ (Reached ws caller k × free)
    on_14 = (from (on_cases (refusal q) ws caller k (in_slot q)), back)
      where
        from : {o : Outcome Reply} → Done (refusal q) ws caller k (in_slot q) o → number_of o.0 ≡ 14 →
            Reached ws caller k × free
        from (entering z) n = absurd ((keeps q).never_14 (slot_at ws k) n)
        from (refusing z) n = reached_14 (sym ((keeps q).number (entry_answer ws caller k)) ∙ n)

        back : Reached ws caller k × free → number_of out.0 ≡ 14
        back g =
            let r = g.0 in
            let a = entry_14 ws caller k r.whole r.within (own_slot r) g.1 in
            ap (λ (o : Outcome Reply). number_of o.0)
            (on_refusing (refusal q) ws caller k (in_slot q) (λ z. omega (arith, z, same_number a)))
            ∙ (keeps q).number (entry_answer ws caller k)
            ∙ same_number a

    on_misused : Reached ws caller k → 1 < in_use_of (slot_at ws k) → number_of out.0 ≡ 4
    on_misused r u =
        let a = entry_0 ws caller k r.whole r.within (own_slot r) (λ z. omega arith) in
        ap (λ (o : Outcome Reply). number_of o.0)
        (on_entering (refusal q) ws caller k (in_slot q) (same_number a))
        ∙ (keeps q).misused (slot_at ws k) u

-- a fault of the text comes first
unless_14 : (f : Option ℕ) (ws : List ℕ) (o : Outcome Reply) →
    (number_of (unless_fault edit_reply f ws o).0 ≡ 14) ↔ ((f ≡ None) × (number_of o.0 ≡ 14))
unless_14 None ws o = (λ n. (refl, n), λ g. g.1)
unless_14 (Some p) ws o = (λ n. absurd (omega (arith, n)), λ g. absurd (none-some _ (sym g.0)))

module _ (ws : List ℕ) (c : Clinic) (k : SlotNumber) (q : SlotCall) where
  pub step_14 : (number_of (step (call_on c k q) ws).0 ≡ 14)
      ↔ ((fault_of q ≡ None) × Reached ws c.0 k.0 × (in_use_of (slot_at ws k.0) ≡ 0))
  step_14 =
      let f = unless_14 (fault_of q) ws (on_slot (refusal q) ws c.0 k.0 (in_slot q)) in
      let o = on_14 ws c.0 k.0 q in
      (λ n. let g = f.0 n in let r = o.0 g.1 in (g.0, r.0, r.1), λ g. f.1 (g.0, o.1 (g.1, g.2)))

  pub step_misused : fault_of q ≡ None → Reached ws c.0 k.0 → 1 < in_use_of (slot_at ws k.0) →
      number_of (step (call_on c k q) ws).0 ≡ 4
  step_misused e r u = rw e (on_misused ws c.0 k.0 q r u)
