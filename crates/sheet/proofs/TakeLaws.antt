-- What a take answers and leaves, row by row, and as a program goes through the slots. Assumes nothing.
use Rattle.std.proofs.Common.{◌≡◌, refl, sym, ap, ◌∙◌, ℕ, suc, ◌+◌, ◌-◌, ◌*◌, ◌≤◌, ◌<◌, arith, true, false, List, inl}
use Rattle.std.proofs.Common.{inr, Option, None, Some, eqb, length, get_or, set, eqb-true, eq-eqb, ne_eqb}
use Rattle.std.proofs.Math.Nat.{sub-zero}
use borrow.Author.Tests.{eqb-false}
use Rattle.rules.specs.Layout.{slot_length}
use Rattle.rules.specs.Sheet.{Setting, setting_of, slot_count, length_ok, slot_at}
use Rattle.rules.specs.Refusals.{Answer, says, Outcome}
use Rattle.rules.specs.Pool.{OwnSlot, own_among, own_slots, lowest_free, granted, take_rows, take_answer, use_at}
use Rattle.rules.specs.Pool.{taking}
use Rattle.std.proofs.lemmas.Bool.{cases_Bool}
use Rattle.sheet.proofs.EntryLaws.{clinic_at, in_use_word}
use Rattle.sheet.specs.FreeSlots.{Free, LowestFree, Takeable}
use Rattle.rules.specs.LowestFree.{FreeAt, Found, found, not_found}
use Rattle.rules.proofs.OwnSlots.{free_here, free_later, lowest}

abbrev pub settings : List ℕ → ℕ → Setting
settings ws k = setting_of (slot_at ws k)

-- Answers -----------------------------------------------------------------------------------------------------------

module _ (n caller : ℕ) (own : List OwnSlot) where
  pub answers_1 : length_ok n ≡ false → take_answer n caller own ≡ says 1 0
  unfolding take_answer take_rows
  answers_1 e = rw e

  pub answers_3 : length_ok n ≡ true → caller ≡ 0 → take_answer n caller own ≡ says 3 0
  unfolding take_answer take_rows
  answers_3 e z = rw (e, eq-eqb caller 0 z)

  pub answers_granted : length_ok n ≡ true → (caller ≡ 0 → ⊥) → take_answer n caller own ≡ granted (lowest_free own)
  unfolding take_answer take_rows
  answers_granted e z = rw (e, ne_eqb caller 0 z)

-- What a take means -------------------------------------------------------------------------------------------------

module _ (ws : List ℕ) (caller : ℕ) where
  pub data Took : Outcome Answer → Type 0 where
    took_1 : length_ok (length ws) ≡ false → Took (says 1 0, ws)
    took_3 : length_ok (length ws) ≡ true → caller ≡ 0 → Took (says 3 0, ws)
    took_13 : Takeable ws caller → ((k : ℕ) → Free ws caller k → ⊥) → Took (says 13 0, ws)
    took_0 : Takeable ws caller → (k : ℕ) → LowestFree ws caller k → Took (says 0 k, set ws (use_at k) 1)

  -- the outcome by the answer
  taking_by : (a : Answer) → take_answer (length ws) caller (own_slots ws caller) ≡ a → (a.number ≡ 0 → ⊥) →
      taking ws caller ≡ (a, ws)
  unfolding taking
  taking_by a e z = rw (e, ne_eqb a.number 0 z)

  taking_slot : (k : ℕ) → take_answer (length ws) caller (own_slots ws caller) ≡ says 0 k →
      taking ws caller ≡ (says 0 k, set ws (use_at k) 1)
  unfolding taking
  taking_slot k e = rw e

  by_lowest : Takeable ws caller → {o : Option ℕ} → Found (settings ws) caller 0 (slot_count ws) o →
      lowest_free (own_slots ws caller) ≡ o → Took (taking ws caller)
  by_lowest t (found k h l f none_before) e =
      let a = answers_granted (length ws) caller (own_slots ws caller) t.whole t.known ∙ ap granted e in
      rw (taking_slot k a)
      (took_0 t k
      (record {
        free = record { within = omega arith; own = f.0; free = f.1 };
        lowest = λ j g o. none_before j (omega arith) g (o.own, o.free);
      }))
  by_lowest t (not_found none_there) e =
      let a = answers_granted (length ws) caller (own_slots ws caller) t.whole t.known ∙ ap granted e in
      rw (taking_by (says 13 0) a (λ z. omega arith))
      (took_13 t (λ k o. none_there k (omega arith) (omega (arith, o.within)) (o.own, o.free)))

  pub took : Took (taking ws caller)
  unfolding own_slots
  took =
      elim (cases_Bool (length_ok (length ws))) [
        | inl e ↦
            elim (cases_Bool (eqb caller 0)) [
              | inl f ↦
                  let z = eqb-true caller 0 f in
                  rw (taking_by (says 3 0) (answers_3 (length ws) caller (own_slots ws caller) e z) (λ y. omega arith))
                  (took_3 e z)
              | inr f ↦
                  by_lowest (record { whole = e; known = eqb-false caller 0 f })
                  (lowest (settings ws) caller 0 (slot_count ws)) refl
            ]
        | inr e ↦
            rw (taking_by (says 1 0) (answers_1 (length ws) caller (own_slots ws caller) e) (λ y. omega arith))
            (took_1 e)
      ]

-- a slot that is granted is the lowest free one
pub granted_lowest : {ws : List ℕ} {caller : ℕ} {o : Outcome Answer} → Took ws caller o → o.0.number ≡ 0 →
    Takeable ws caller × LowestFree ws caller o.0.place
granted_lowest (took_1 e) z = absurd (omega (arith, z))
granted_lowest (took_3 e f) z = absurd (omega (arith, z))
granted_lowest (took_13 t f) z = absurd (omega (arith, z))
granted_lowest (took_0 t k l) z = (t, l)

-- As a program goes through the slots -------------------------------------------------------------------------------

module _ (ws : List ℕ) (caller slots : ℕ) where
  -- the slots before slot k are not the caller's, or not free
  pub record Looked (k : ℕ) : Type 0 where
    pub within : k ≤ slots
    pub rest : lowest_free (own_slots ws caller) ≡ lowest_free (own_among (settings ws) caller k (slots - k))

  pub looked_none : length ws ≡ slot_length * slots → Looked 0
  unfolding own_slots
  looked_none h =
      let n : slot_count ws ≡ slots = omega (arith, h) in
      record { within = omega arith; rest = rw (n, sub-zero) }

  pub looked_more : {k : ℕ} → Looked k → k < slots → (FreeAt (settings ws) caller k → ⊥) → Looked (k + 1)
  looked_more {k} l h f =
      let n : slots - k ≡ suc (slots - (k + 1)) = omega arith in
      let m : suc k ≡ k + 1 = omega arith in
      record {
        within = omega arith;
        rest = l.rest ∙ ap (λ j. lowest_free (own_among (settings ws) caller k j)) n
            ∙ free_later (settings ws) caller k (slots - (k + 1)) f
            ∙ ap (λ j. lowest_free (own_among (settings ws) caller j (slots - (k + 1)))) m;
      }

  -- as the program tests slot k
  pub looked_foreign : {k : ℕ} → Looked k → k < slots → (get_or ws (slot_length * k) 0 ≡ caller → ⊥) → Looked (k + 1)
  looked_foreign {k} l h d = looked_more l h (λ f. d (sym (clinic_at ws k) ∙ sym f.0))

  pub looked_used : {k : ℕ} → Looked k → k < slots → (get_or ws (use_at k) 0 ≡ 0 → ⊥) → Looked (k + 1)
  looked_used {k} l h d = looked_more l h (λ f. d (sym (in_use_word ws k) ∙ f.1))

  pub looked_free : {k : ℕ} → Looked k → k < slots → get_or ws (slot_length * k) 0 ≡ caller →
      get_or ws (use_at k) 0 ≡ 0 →
      lowest_free (own_slots ws caller) ≡ Some k
  looked_free {k} l h own free =
      let n : slots - k ≡ suc (slots - (k + 1)) = omega arith in
      let f : FreeAt (settings ws) caller k = (sym (clinic_at ws k ∙ own), in_use_word ws k ∙ free) in
      l.rest ∙ ap (λ j. lowest_free (own_among (settings ws) caller k j)) n
      ∙ free_here (settings ws) caller k (slots - (k + 1)) f

  pub looked_all : {k : ℕ} → Looked k → slots ≤ k → lowest_free (own_slots ws caller) ≡ None
  unfolding own_among lowest_free
  looked_all {k} l h =
      let n : slots - k ≡ 0 = omega arith in
      l.rest ∙ ap (λ j. lowest_free (own_among (settings ws) caller k j)) n

pub ruleset take_rows_tested = (answers_1, answers_3, answers_granted)

pub ruleset slots_tested = (looked_none, looked_foreign, looked_used, looked_free, looked_all)
