-- What a slot is after a clinic's call: as it was, or what the call makes of it where it gets to that slot, which is
-- then the clinic's own. Assumes nothing.
use Rattle.std.proofs.Common.{◌≡◌, refl, sym, ap, subst, ◌∙◌, ℕ, arith, List, inl, inr, Option, None, Some, eqb, set}
use Rattle.std.proofs.Common.{get_or-set_other, eqb-true}
use borrow.Author.Tests.{eqb-false}
use Rattle.rules.specs.Sheet.{clinic_of, slot_at, with_slot}
use Rattle.rules.specs.Refusals.{Outcome, entry_answer, on_slot}
use Rattle.rules.specs.Pool.{use_at, taking}
use Rattle.std.proofs.lemmas.Bool.{cases_Bool}
use Rattle.std.proofs.lemmas.Option.{none-some}
use Rattle.sheet.specs.Import.{unless_fault}
use Rattle.sheet.specs.Book.{SlotCall, Call, call_set_up, call_take, call_on, Reply, edit_reply, refusal, fault_of}
use Rattle.sheet.specs.OnSheet.{in_slot, step}
use Rattle.sheet.specs.Meanings.{By}
use Rattle.sheet.specs.declared.entry.Clinic.{Clinic}
use Rattle.sheet.specs.declared.entry.SlotNumber.{SlotNumber}
use Rattle.sheet.proofs.EntryLaws.{entry_passed}
use Rattle.sheet.proofs.SlotInSheet.{slot_with, slot_beside}
use Rattle.sheet.proofs.TakeLaws.{took, granted_lowest}
use Rattle.sheet.proofs.OnSlot.{Done, entering, refusing, on_cases, room, length_slot_at}
use Rattle.sheet.proofs.SlotCalls.{keeps}
use Rattle.sheet.proofs.TakenSlots.{taken_slot, taken_beside, take_sets, take_keeps, granted_room}

-- a clinic's call gets to slot k
abbrev pub Reaches : Call → List ℕ → ℕ → Type 0
Reaches (call_set_up clinics measures indents) ws k = ⊥
Reaches (call_take caller) ws k = ((taking ws caller.0).0.number ≡ 0) × (k ≡ (taking ws caller.0).0.place)
Reaches (call_on caller j q) ws k = (fault_of q ≡ None) × ((entry_answer ws caller.0 j.0).number ≡ 0) × (k ≡ j.0)

-- what it makes of the words of a slot that it gets to
abbrev pub makes : Call → List ℕ → List ℕ
makes (call_set_up clinics measures indents) s = s
makes (call_take caller) s = set s 5 1
makes (call_on caller j q) s = (in_slot q s).1

-- slot k, which was s, after clinic d's call
pub data After (d : ℕ) (c : Call) (ws : List ℕ) (k : ℕ) (s t : List ℕ) : Type 0 where
  changed : Reaches c ws k → d ≡ clinic_of s → t ≡ makes c s → After d c ws k s t
  stayed : (Reaches c ws k → ⊥) → t ≡ s → After d c ws k s t

-- A take ------------------------------------------------------------------------------------------------------------

module _ (caller : Clinic) (ws : List ℕ) (k : ℕ) where
  abbrev out : List ℕ
  out = (taking ws caller.0).1

  abbrev j : ℕ
  j = (taking ws caller.0).0.place

  granted : (taking ws caller.0).0.number ≡ 0 →
      After caller.0 (call_take caller) ws k (slot_at ws k) (slot_at out k)
  granted z =
      let sets = ap (λ l. slot_at l k) (take_sets ws caller.0 z) in
      let own = (granted_lowest (took ws caller.0) z).1.free.own in
      elim (cases_Bool (eqb k j)) [
        | inl t ↦
            let same = eqb-true k j t in
            changed (z, same) (own ∙ ap (λ n. clinic_of (slot_at ws n)) (sym same))
            (sets
            ∙ subst (λ n. slot_at (set ws (use_at j) 1) n ≡ set (slot_at ws n) 5 1) (sym same)
            (taken_slot ws j (granted_room ws caller.0 z)))
        | inr t ↦
            let other = eqb-false k j t in
            stayed (λ h. other h.1) (sets ∙ taken_beside ws j (granted_room ws caller.0 z) k other)
      ]

  after_take : After caller.0 (call_take caller) ws k (slot_at ws k) (slot_at out k)
  after_take =
      elim (cases_Bool (eqb (taking ws caller.0).0.number 0)) [
        | inl e ↦ granted (eqb-true _ _ e)
        | inr e ↦
            let z = eqb-false _ _ e in
            stayed (λ h. z h.0) (ap (λ l. slot_at l k) (take_keeps ws caller.0 z))
      ]

-- A call on a slot --------------------------------------------------------------------------------------------------

module _ (caller : Clinic) (j : SlotNumber) (q : SlotCall) (ws : List ℕ) (k : ℕ) where
  abbrev AfterOn : List ℕ → Type 0
  AfterOn t = After caller.0 (call_on caller j q) ws k (slot_at ws k) t

  abbrev made : List ℕ → List ℕ
  made s = (in_slot q s).1

  after_entering : fault_of q ≡ None → (entry_answer ws caller.0 j.0).number ≡ 0 →
      AfterOn (slot_at (with_slot ws j.0 (made (slot_at ws j.0))) k)
  after_entering e z =
      let w = (keeps q).whole (slot_at ws j.0) (length_slot_at ws caller.0 j.0 z) in
      let room = room ws caller.0 j.0 z in
      let now_there : List ℕ = with_slot ws j.0 (made (slot_at ws j.0)) in
      elim (cases_Bool (eqb k j.0)) [
        | inl t ↦
            let same = eqb-true k j.0 t in
            changed (e, z, same) ((entry_passed ws caller.0 j.0 z).own
            ∙ ap (λ n. clinic_of (slot_at ws n)) (sym same))
            (subst (λ n. slot_at now_there n ≡ made (slot_at ws n)) (sym same)
            (slot_with ws j.0 (made (slot_at ws j.0)) room w))
        | inr t ↦
            let other = eqb-false k j.0 t in
            stayed (λ h. other h.2) (slot_beside ws j.0 (made (slot_at ws j.0)) room w k other)
      ]

  after_on : (f : Option ℕ) → fault_of q ≡ f →
      AfterOn
      (slot_at (unless_fault edit_reply f ws (on_slot (refusal q) ws caller.0 j.0 (in_slot q))).1 k)
  after_on (Some p) e = stayed (λ h. none-some _ (sym h.0 ∙ e)) refl
  after_on None e = from (on_cases (refusal q) ws caller.0 j.0 (in_slot q))
    where
      from : {o : Outcome Reply} → Done (refusal q) ws caller.0 j.0 (in_slot q) o → AfterOn (slot_at o.1 k)
      from (refusing z) = stayed (λ h. z h.1) refl
      from (entering z) = after_entering e z

-- Any call ----------------------------------------------------------------------------------------------------------

-- told of the same clinic by another name
moved : {d e : ℕ} {c : Call} {ws : List ℕ} {k : ℕ} {s t : List ℕ} → d ≡ e → After d c ws k s t → After e c ws k s t
moved b (changed r own e) = changed r (sym b ∙ own) e
moved b (stayed r e) = stayed r e

pub after_call : (d : Clinic) (c : Call) → By d c → (ws : List ℕ) (k : ℕ) →
    After d.0 c ws k (slot_at ws k) (slot_at (step c ws).1 k)
after_call d (call_set_up clinics measures indents) b ws k = absurd b
after_call d (call_take caller) b ws k = moved b (after_take caller ws k)
after_call d (call_on caller j q) b ws k = moved b (after_on caller j q ws k (fault_of q) refl)

makes_clinic : (d : Clinic) (c : Call) → By d c → (s : List ℕ) → clinic_of (makes c s) ≡ clinic_of s
makes_clinic d (call_set_up clinics measures indents) b s = absurd b
makes_clinic d (call_take caller) b s = get_or-set_other s 5 0 1 0 (λ e. omega (arith, e))
makes_clinic d (call_on caller j q) b s = (keeps q).clinic s

-- no slot changes hands
pub clinic_kept : (d : Clinic) (c : Call) → By d c → (ws : List ℕ) (k : ℕ) →
    clinic_of (slot_at (step c ws).1 k) ≡ clinic_of (slot_at ws k)
clinic_kept d c b ws k = from (after_call d c b ws k)
  where
    from : {s t : List ℕ} → After d.0 c ws k s t → clinic_of t ≡ clinic_of s
    from (changed h own e) = ap clinic_of e ∙ makes_clinic d c b _
    from (stayed h e) = ap clinic_of e

-- and one of another clinic's stays as it is
pub slot_kept : (d : Clinic) (c : Call) → By d c → (ws : List ℕ) (k : ℕ) → (d.0 ≡ clinic_of (slot_at ws k) → ⊥) →
    slot_at (step c ws).1 k ≡ slot_at ws k
slot_kept d c b ws k foreign = from foreign (after_call d c b ws k)
  where
    from : {s t : List ℕ} → (d.0 ≡ clinic_of s → ⊥) → After d.0 c ws k s t → t ≡ s
    from foreign (changed h own e) = absurd (foreign own)
    from foreign (stayed h e) = e
