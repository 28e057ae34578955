-- A sheet with one slot taken: what its slots are, and each clinic's own ones; and what a take of two sheets that are
-- alike for it answers and leaves. Assumes nothing.
use Rattle.std.proofs.Common.{◌≡◌, refl, sym, ap, ◌∙◌, ℕ, ◌+◌, ◌*◌, ◌≤◌, arith, true, cond, List, map, inl, inr, eqb}
use Rattle.std.proofs.Common.{length, set, length-set, get_or-set_same, get_or-set_other, eqb-true, eq-eqb, ne_eqb}
use borrow.Author.Tests.{eqb-false}
use Rattle.rules.specs.Layout.{slot_length}
use Rattle.rules.specs.Sheet.{with_use, setting_of, slot_count, length_ok, slot_at, with_slot}
use Rattle.rules.specs.Refusals.{Answer, says, Outcome}
use Rattle.rules.specs.Numbers.{refused_with}
use Rattle.rules.specs.declared.refusal.Refusal.{Refusal}
use Rattle.slot.proofs.RefusalNumbers.{number_not_0}
use Rattle.rules.specs.Pool.{own_slots, take_answer, use_at, taking}
use Rattle.std.proofs.lemmas.Bool.{cases_Bool}
use Rattle.sheet.specs.Meanings.{AlikeOwn}
use Rattle.sheet.proofs.Tables.{same_number}
use Rattle.sheet.proofs.Lengths.{whole}
use Rattle.sheet.proofs.SlotInSheet.{slot_with, length_at, slot_beside, set_in_slot}
use Rattle.rules.proofs.OwnSlots.{taken_at, own_taken}
use Rattle.sheet.proofs.TakeLaws.{settings, answers_1, answers_3, took, granted_lowest}

-- One slot taken ----------------------------------------------------------------------------------------------------

module _ (ws : List ℕ) (k : ℕ) (room : slot_length * k + slot_length ≤ length ws) where
  abbrev taken : List ℕ
  taken = set ws (use_at k) 1

  in_slot : taken ≡ with_slot ws k (set (slot_at ws k) 5 1)
  in_slot = set_in_slot ws k 5 1 room (omega arith)

  length_taken : length (set (slot_at ws k) 5 1) ≡ slot_length
  length_taken = length-set (slot_at ws k) 5 1 ∙ length_at ws k room

  pub taken_slot : slot_at taken k ≡ set (slot_at ws k) 5 1
  taken_slot = ap (λ l. slot_at l k) in_slot ∙ slot_with ws k (set (slot_at ws k) 5 1) room length_taken

  pub taken_beside : (j : ℕ) → (j ≡ k → ⊥) → slot_at taken j ≡ slot_at ws j
  taken_beside j other =
      ap (λ l. slot_at l j) in_slot ∙ slot_beside ws k (set (slot_at ws k) 5 1) room length_taken j other

  used_setting : (s : List ℕ) → length s ≡ slot_length → setting_of (set s 5 1) ≡ with_use (setting_of s) 1
  used_setting s h =
      rw (
        get_or-set_other s 5 0 1 0 (λ e. omega (arith, e)),
        get_or-set_other s 5 1 1 0 (λ e. omega (arith, e)),
        get_or-set_other s 5 2 1 0 (λ e. omega (arith, e)),
        get_or-set_same s 5 1 0 (omega arith),
      )

  taken_settings : (j : ℕ) → settings taken j ≡ cond (eqb j k) (with_use (settings ws j) 1) (settings ws j)
  taken_settings j =
      elim (cases_Bool (eqb j k)) [
        | inl e ↦
            let same = eqb-true j k e in
            rw (e, same) (ap setting_of taken_slot ∙ used_setting (slot_at ws k) (length_at ws k room))
        | inr e ↦ rw e (ap setting_of (taken_beside j (eqb-false j k e)))
      ]

  -- any clinic's own slots
  pub taken_own : (clinic : ℕ) → own_slots taken clinic ≡ map (taken_at k) (own_slots ws clinic)
  unfolding own_slots
  taken_own clinic =
      rw (length-set ws (use_at k) 1)
      (own_taken (settings ws) (settings taken) clinic k taken_settings 0 (slot_count ws))

-- What a take leaves ------------------------------------------------------------------------------------------------

module _ (ws : List ℕ) (caller : ℕ) where
  pub take_sets : (taking ws caller).0.number ≡ 0 → (taking ws caller).1 ≡ set ws (use_at (taking ws caller).0.place) 1
  unfolding taking
  take_sets z = rw (eq-eqb _ _ z)

  pub take_keeps : ((taking ws caller).0.number ≡ 0 → ⊥) → (taking ws caller).1 ≡ ws
  unfolding taking
  take_keeps z = rw (ne_eqb _ _ z)

  pub take_length : length (taking ws caller).1 ≡ length ws
  take_length =
      elim (cases_Bool (eqb (taking ws caller).0.number 0)) [
        | inl e ↦ ap length (take_sets (eqb-true _ _ e)) ∙ length-set ws _ 1
        | inr e ↦ ap length (take_keeps (eqb-false _ _ e))
      ]

  -- there is room for the slot that is granted
  pub granted_room : (taking ws caller).0.number ≡ 0 →
      slot_length * (taking ws caller).0.place + slot_length ≤ length ws
  granted_room z =
      let g = granted_lowest (took ws caller) z in
      omega (arith, (whole (length ws) g.0.whole).exact, g.1.free.within)

-- as a program makes it, which has the answer first
module _ (ws : List ℕ) (caller : ℕ) (a : Answer)
    (e : a ≡ take_answer (length ws) caller (own_slots ws caller)) where
  same_answer : (taking ws caller).0 ≡ a
  unfolding taking
  same_answer = sym e

  pub answer_room : a.number ≡ 0 → slot_length * a.place + slot_length ≤ length ws
  answer_room z =
      omega (arith, granted_room ws caller (same_number same_answer ∙ z), ap (λ (b : Answer). b.place) same_answer)

  pub takes_slot : a.number ≡ 0 → ◌≡◌ {A = Outcome Answer} (a, set ws (use_at a.place) 1) (taking ws caller)
  unfolding taking
  takes_slot z = rw (← e, eq-eqb _ _ z)

  pub takes_none : (a.number ≡ 0 → ⊥) → ◌≡◌ {A = Outcome Answer} (a, ws) (taking ws caller)
  unfolding taking
  takes_none z = rw (← e, ne_eqb _ _ z)

-- by what a program knows of that answer
module _ (ws : List ℕ) (caller : ℕ) where
  abbrev answer : Answer
  answer = take_answer (length ws) caller (own_slots ws caller)

  pub take_room : (k : ℕ) → says 0 k ≡ answer → slot_length * k + slot_length ≤ length ws
  take_room k e = answer_room ws caller (says 0 k) e refl

  pub take_done : (k : ℕ) → says 0 k ≡ answer →
      ◌≡◌ {A = Outcome Answer} (says 0 k, set ws (use_at k) 1) (taking ws caller)
  take_done k e = takes_slot ws caller (says 0 k) e refl

  pub take_refused : (r : Refusal) → refused_with r ≡ answer →
      ◌≡◌ {A = Outcome Answer} (refused_with r, ws) (taking ws caller)
  take_refused r e = takes_none ws caller (refused_with r) e (number_not_0 r)

pub ruleset takes = (take_room, take_done, take_refused)

-- Two sheets --------------------------------------------------------------------------------------------------------

module _ (ws vs : List ℕ) (caller : ℕ) (a : AlikeOwn caller ws vs) where
  -- what a take answers is the same on both
  pub take_alike : (taking ws caller).0 ≡ (taking vs caller).0
  unfolding taking
  take_alike =
      elim (cases_Bool (length_ok (length ws))) [
        | inl e ↦
            elim (cases_Bool (eqb caller 0)) [
              | inl f ↦
                  let z = eqb-true caller 0 f in
                  answers_3 (length ws) caller (own_slots ws caller) e z
                  ∙ sym (answers_3 (length vs) caller (own_slots vs caller) (rw a.same_length at e) z)
              | inr f ↦
                  ap (take_answer (length ws) caller) (a.same_own e (eqb-false caller 0 f))
                  ∙ ap (λ n. take_answer n caller (own_slots vs caller)) a.same_length
            ]
        | inr e ↦
            answers_1 (length ws) caller (own_slots ws caller) e
            ∙ sym (answers_1 (length vs) caller (own_slots vs caller) (rw a.same_length at e))
      ]

  -- and what it leaves is alike again
  pub take_left_alike : AlikeOwn caller (taking ws caller).1 (taking vs caller).1
  take_left_alike =
      record {
        same_length = take_length ws caller ∙ a.same_length ∙ sym (take_length vs caller);
        same_own = λ e known. left_own (rw (take_length ws caller) at e) known;
      }
    where
      left_own : length_ok (length ws) ≡ true → (caller ≡ 0 → ⊥) →
          own_slots (taking ws caller).1 caller ≡ own_slots (taking vs caller).1 caller
      left_own e known =
          let own = a.same_own e known in
          elim (cases_Bool (eqb (taking ws caller).0.number 0)) [
            | inl f ↦
                let z = eqb-true _ _ f in
                let y : (taking vs caller).0.number ≡ 0 = sym (same_number take_alike) ∙ z in
                let k = (taking ws caller).0.place in
                ap (λ l. own_slots l caller) (take_sets ws caller z)
                ∙ taken_own ws k (granted_room ws caller z) caller
                ∙ ap (map (taken_at k)) own
                ∙ ap (λ j. map (taken_at j) (own_slots vs caller)) (ap (λ (b : Answer). b.place) take_alike)
                ∙ sym (taken_own vs (taking vs caller).0.place (granted_room vs caller y) caller)
                ∙ ap (λ l. own_slots l caller) (sym (take_sets vs caller y))
            | inr f ↦
                let z = eqb-false _ _ f in
                ap (λ l. own_slots l caller) (take_keeps ws caller z)
                ∙ own
                ∙ ap (λ l. own_slots l caller) (sym (take_keeps vs caller (λ y. z (same_number take_alike ∙ y))))
          ]
