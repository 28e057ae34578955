-- Laws of set-up's three lists: the search for a slot out of limits, and set-up's answer. Assumes nothing.
use Rattle.std.proofs.Common.{◌≡◌, refl, sym, ap, ◌∙◌, ℕ, suc, ◌+◌, ◌-◌, ◌*◌, ◌/◌, ◌≤◌, ◌<◌, add-one, arith, Bool}
use Rattle.std.proofs.Common.{true, false, not, ◌||◌, List, inl, inr, Option, None, Some, eqb, length, eqb-true}
use Rattle.std.proofs.Common.{eq-eqb, ne_eqb}
use Rattle.std.proofs.Math.Bool.{or-true}
use borrow.Author.Tests.{not-false}
use Rattle.rules.specs.Layout.{most_slots, slot_length}
use Rattle.rules.specs.Sheet.{slot_limits_ok, length_ok}
use Rattle.rules.specs.Refusals.{Answer, says, Outcome, or_else, setting_at, bad_slot}
use Rattle.rules.specs.Refusals.{set_up_rows, set_up_answer, set_up}
use Rattle.std.proofs.lemmas.Bool.{cases_Bool}
use Rattle.sheet.specs.Lists.{Matched, all_fresh}
use Rattle.sheet.proofs.Tables.{same_number}
use Rattle.sheet.proofs.Lengths.{or_left, or_right, whole}

module _ (clinics measures indents : List ℕ) where
  abbrev good : ℕ → Bool
  good k = slot_limits_ok (setting_at clinics measures indents k)

  -- a search for a slot out of limits: what is left from slot k on gives what the whole gives
  pub record Searched (k : ℕ) : Type 0 where
    pub within : k ≤ length clinics
    pub rest : bad_slot k clinics measures indents (length clinics - k)
        ≡ bad_slot 0 clinics measures indents (length clinics)

  one : {k : ℕ} → k < length clinics → length clinics - k ≡ suc (length clinics - (k + 1))
  one h = omega arith

  pub search_more : {k : ℕ} → Searched k → k < length clinics → good k ≡ true → Searched (k + 1)
  unfolding bad_slot
  search_more {k} s h g = record { within = omega arith; rest = rw (← s.rest, one h, g, bad_slot, add-one) }

  pub search_found : {k : ℕ} → Searched k → k < length clinics → good k ≡ false →
      Some k ≡ bad_slot 0 clinics measures indents (length clinics)
  unfolding bad_slot
  search_found {k} s h g = rw (← s.rest, one h, g, bad_slot)

  pub search_all : {k : ℕ} → Searched k → length clinics ≤ k →
      None ≡ bad_slot 0 clinics measures indents (length clinics)
  unfolding bad_slot
  search_all {k} s h =
      let z : length clinics - k ≡ 0 = omega arith in
      rw (← s.rest, z)

  -- answer 1 is due
  abbrev pub misfit : ℕ → Bool
  misfit n =
      not (length_ok n) || not (eqb (length clinics) (n / slot_length)) || not (eqb (length measures) (n / slot_length))
      || not (eqb (length indents) (n / slot_length))

  -- what the lists and the length tell where answer 1 is not due
  pub record Fitting (n : ℕ) : Type 0 where
    pub slots : length clinics ≡ n / slot_length
    pub exact : n ≡ slot_length * length clinics
    pub some : 1 ≤ length clinics
    pub few : length clinics ≤ 64
    pub matched : Matched clinics measures indents

  pub fitting : (n : ℕ) → misfit n ≡ false → Fitting n
  fitting n e =
      let other : List ℕ → Bool = λ l. not (eqb (length l) (n / slot_length)) in
      let same : (l : List ℕ) → other l ≡ false → length l ≡ n / slot_length = λ l f. eqb-true _ _ (not-false _ f) in
      let two : not (length_ok n) || other clinics || other measures ≡ false = or_left _ (other indents) e in
      let one : not (length_ok n) || other clinics ≡ false = or_left _ (other measures) two in
      let c = same clinics (or_right (not (length_ok n)) (other clinics) one) in
      let m = same measures (or_right (not (length_ok n) || other clinics) (other measures) two) in
      let x = same indents (or_right (not (length_ok n) || other clinics || other measures) (other indents) e) in
      let w = whole n (not-false _ (or_left (not (length_ok n)) (other clinics) one)) in
      record {
        slots = c;
        exact = omega arith;
        some = omega arith;
        few = omega arith;
        matched = record { same_measures = m ∙ sym c; same_indents = x ∙ sym c };
      }

  pub answer_1 : (n : ℕ) → misfit n ≡ true → says 1 0 ≡ set_up_answer n clinics measures indents
  unfolding set_up_rows set_up_answer
  answer_1 n e = rw e

  pub answer_11 : (n : ℕ) → misfit n ≡ false → (a : Answer) →
      a ≡ or_else 11 (bad_slot 0 clinics measures indents (length clinics)) (says 0 (length clinics)) → a
      ≡ set_up_answer n clinics measures indents
  unfolding set_up_rows set_up_answer
  answer_11 n e a h =
      rw e (h ∙ ap (λ p. or_else 11 (bad_slot 0 clinics measures indents p) (says 0 p)) (fitting n e).slots)

  -- an accepted set-up: answer 1 was not due
  fits : (n : ℕ) → (set_up_answer n clinics measures indents).number ≡ 0 → misfit n ≡ false
  fits n z =
      elim (cases_Bool (misfit n)) [
        | inl e ↦ absurd (omega (arith, same_number (answer_1 n e), z))
        | inr e ↦ e
      ]

  pub accepted : (n : ℕ) → (set_up_answer n clinics measures indents).number ≡ 0 → Fitting n
  accepted n z = fitting n (fits n z)

  -- nor was 11
  pub accepted_limits : (n : ℕ) → (set_up_answer n clinics measures indents).number ≡ 0 →
      bad_slot 0 clinics measures indents (length clinics) ≡ None
  accepted_limits n z =
      none_named _ _ (same_number (answer_11 n (fits n z) _ refl) ∙ z)
    where
      none_named : (o : Option ℕ) (a : Answer) → (or_else 11 o a).number ≡ 0 → o ≡ None
      none_named None a e = refl
      none_named (Some i) a e = absurd (omega (arith, e))

-- Set-up as a program tests its rows ---------------------------------------------------------------------------------

module _ (clinics measures indents ws : List ℕ) where
  abbrev answer : Answer
  answer = set_up_answer (length ws) clinics measures indents

  abbrev done : Outcome Answer
  done = set_up ws clinics measures indents

  refused : (a : Answer) → a ≡ answer → (a.number ≡ 0 → ⊥) → ◌≡◌ {A = Outcome Answer} (a, ws) done
  unfolding set_up
  refused a e z = rw (← e, ne_eqb a.number 0 z)

  refused_1 : misfit clinics measures indents (length ws) ≡ true → ◌≡◌ {A = Outcome Answer} (says 1 0, ws) done
  refused_1 e = refused (says 1 0) (answer_1 clinics measures indents (length ws) e) (λ z. omega (arith, z))

  another : (l : List ℕ) → (length l ≡ length ws / slot_length → ⊥) →
      not (eqb (length l) (length ws / slot_length)) ≡ true
  another l d = rw (ne_eqb _ _ d)

  pub no_sheet : length_ok (length ws) ≡ false → ◌≡◌ {A = Outcome Answer} (says 1 0, ws) done
  no_sheet e = refused_1 (rw e)

  pub other_clinics : (length clinics ≡ length ws / slot_length → ⊥) → ◌≡◌ {A = Outcome Answer} (says 1 0, ws) done
  other_clinics d = refused_1 (rw (another clinics d, or-true))

  pub other_measures : (length measures ≡ length ws / slot_length → ⊥) → ◌≡◌ {A = Outcome Answer} (says 1 0, ws) done
  other_measures d = refused_1 (rw (another measures d, or-true))

  pub other_indents : (length indents ≡ length ws / slot_length → ⊥) → ◌≡◌ {A = Outcome Answer} (says 1 0, ws) done
  other_indents d = refused_1 (rw (another indents d, or-true))

  module _ (o : length_ok (length ws) ≡ true) (c : length clinics ≡ length ws / slot_length)
      (m : length measures ≡ length ws / slot_length)
      (x : length indents ≡ length ws / slot_length) where
    all_fit : misfit clinics measures indents (length ws) ≡ false
    all_fit = rw (o, eq-eqb _ _ c, eq-eqb _ _ m, eq-eqb _ _ x)

    pub few_slots : length clinics ≤ most_slots
    few_slots = (fitting clinics measures indents (length ws) all_fit).few

    pub exact_length : length ws ≡ slot_length * length clinics
    exact_length = (fitting clinics measures indents (length ws) all_fit).exact

    pub out_of_limits : (k : ℕ) → Some k ≡ bad_slot 0 clinics measures indents (length clinics) →
        ◌≡◌ {A = Outcome Answer} (says 11 k, ws) done
    out_of_limits k e =
        refused (says 11 k)
        (answer_11 clinics measures indents (length ws) all_fit (says 11 k)
        (ap (λ b. or_else 11 b (says 0 (length clinics))) e))
        (λ z. omega (arith, z))

    pub all_set_up : (slots : ℕ) (last : List ℕ) → slots ≡ length ws / slot_length →
        None ≡ bad_slot 0 clinics measures indents (length clinics) →
        last ≡ all_fresh clinics measures indents →
        ◌≡◌ {A = Outcome Answer} (says 0 slots, last) done
    unfolding set_up
    all_set_up slots last n e h =
        let a : says 0 (length clinics) ≡ answer =
        answer_11 clinics measures indents (length ws) all_fit (says 0 (length clinics))
        (ap (λ b. or_else 11 b (says 0 (length clinics))) e) in
        rw (← a, h, c, n)

pub ruleset sets_up = (
  no_sheet,
  other_clinics,
  other_measures,
  other_indents,
  few_slots,
  exact_length,
  out_of_limits,
  all_set_up,
)
