-- Laws of a clinic's own slots, and of the lowest-numbered of them that is free. Assumes nothing.
use Rattle.std.proofs.Common.{◌≡◌, refl, subst, ℕ, zero, suc, ◌≤◌, arith, cond, List, map, ◌⊎◌, inl, inr, Option}
use Rattle.std.proofs.Common.{Some, eqb, eqb-true, eq-eqb, ne_eqb}
use borrow.Author.Tests.{eqb-false}
use Rattle.rules.specs.Sheet.{Setting, with_use}
use Rattle.rules.specs.Pool.{OwnSlot, own_among, lowest_free}
use Rattle.rules.specs.LowestFree.{FreeAt, Found, found, not_found}
use Rattle.std.proofs.lemmas.Bool.{cases_Bool, cases_lt}

module _ (settings : ℕ → Setting) (clinic : ℕ) where
  abbrev own : ℕ → ℕ → List OwnSlot
  own k n = own_among settings clinic k n

  abbrev FreeOf : ℕ → Type 0
  FreeOf k = FreeAt settings clinic k

  pub free_here : (k n : ℕ) → FreeOf k → lowest_free (own k (suc n)) ≡ Some k
  unfolding own_among lowest_free
  free_here k n f = rw (eq-eqb _ _ f.0, eq-eqb _ _ f.1)

  pub free_later : (k n : ℕ) → (FreeOf k → ⊥) → lowest_free (own k (suc n)) ≡ lowest_free (own (suc k) n)
  unfolding own_among lowest_free
  free_later k n f =
      elim (cases_Bool (eqb clinic (settings k).clinic)) [
        | inl e ↦ rw (e, ne_eqb (settings k).in_use 0 (λ z. f (eqb-true _ _ e, z)))
        | inr e ↦ rw e
      ]

  free_or_not : (k : ℕ) → FreeOf k ⊎ (FreeOf k → ⊥)
  free_or_not k =
      elim (cases_Bool (eqb clinic (settings k).clinic)) [
        | inl e ↦
            elim (cases_Bool (eqb (settings k).in_use 0)) [
              | inl f ↦ inl (eqb-true _ _ e, eqb-true _ _ f)
              | inr f ↦ inr (λ g. eqb-false _ _ f g.1)
            ]
        | inr e ↦ inr (λ g. eqb-false _ _ e g.0)
      ]

  -- not slot k, so a later one
  later : (k n i : ℕ) → (FreeOf k → ⊥) → k ≤ i → FreeOf i → suc k ≤ i
  later k n i g h f =
      elim (cases_lt k i) [
        | inl l ↦ omega arith
        | inr l ↦ let e : i ≡ k = omega arith in absurd (g (subst FreeOf e f))
      ]

  found_later : (k n : ℕ) {o : Option ℕ} → (FreeOf k → ⊥) → Found settings clinic (suc k) n o →
      Found settings clinic k (suc n) o
  found_later k n g (found j h l f none_before) =
      found j (omega arith) (omega arith) f (λ i m p q. none_before i (later k n i g m q) p q)
  found_later k n g (not_found none_there) =
      not_found (λ i m p q. none_there i (later k n i g m q) (omega arith) q)

  pub lowest : (k n : ℕ) → Found settings clinic k n (lowest_free (own k n))
  unfolding own_among lowest_free
  lowest k zero = not_found (λ i h l f. omega arith)
  lowest k (suc n) =
      elim (free_or_not k) [
        | inl f ↦ rw (free_here k n f) (found k (omega arith) (omega arith) f (λ i h l g. omega arith))
        | inr f ↦ rw (free_later k n f) (found_later k n f (lowest (suc k) n))
      ]

-- Two lists of settings ---------------------------------------------------------------------------------------------

module _ (settings others : ℕ → Setting) (clinic : ℕ) where
  -- of the same clinics, and with the same in-use words in this clinic's slots
  pub own_same : ((k : ℕ) → (others k).clinic ≡ (settings k).clinic) →
      ((k : ℕ) → clinic ≡ (settings k).clinic → (others k).in_use ≡ (settings k).in_use) →
      (k n : ℕ) → own_among others clinic k n ≡ own_among settings clinic k n
  unfolding own_among
  own_same c u k zero = refl
  own_same c u k (suc n) =
      elim (cases_Bool (eqb clinic (settings k).clinic)) [
        | inl e ↦ rw (c k, e, u k (eqb-true _ _ e), own_same c u (suc k) n)
        | inr e ↦ rw (c k, e, own_same c u (suc k) n)
      ]

-- an own slot's word, once slot j is taken
abbrev pub taken_at : ℕ → OwnSlot → OwnSlot
taken_at j o = (o.0, cond (eqb o.0 j) 1 o.1)

module _ (settings others : ℕ → Setting) (clinic j : ℕ) where
  -- where slot j's word is 1 and all else is the same
  pub own_taken : ((k : ℕ) → others k ≡ cond (eqb k j) (with_use (settings k) 1) (settings k)) →
      (k n : ℕ) → own_among others clinic k n ≡ map (taken_at j) (own_among settings clinic k n)
  unfolding own_among
  own_taken h k zero = refl
  own_taken h k (suc n) =
      let same : (others k).clinic ≡ (settings k).clinic
      = elim (cases_Bool (eqb k j)) [ inl t ↦ rw (h k, t) | inr t ↦ rw (h k, t) ] in
      let word : (others k).in_use ≡ cond (eqb k j) 1 (settings k).in_use
      = elim (cases_Bool (eqb k j)) [ inl t ↦ rw (h k, t) | inr t ↦ rw (h k, t) ] in
      let more = own_taken h (suc k) n in
      elim (cases_Bool (eqb clinic (settings k).clinic)) [
        | inl e ↦ rw (same, e, word, more)
        | inr e ↦ rw (same, e, more)
      ]
