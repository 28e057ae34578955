-- docs/RULES.md, "How many lines an edit composes anew": the test of r, said without it, and who has r. Assumes
-- nothing.
use Rattle.std.proofs.Common.{◌≡◌, sym, ℕ, zero, suc, ◌+◌, ◌-◌, ◌≤◌, ◌<◌, arith, true, false, List, [], ◌∷◌, inl, inr}
use Rattle.std.proofs.Common.{◌↔◌, leb, eqb, length, drop, leb-true, le-leb, eqb-true, eq-eqb}
use Rattle.std.proofs.Math.Bool.{and-eq-true_iff}
use Rattle.rules.specs.Basics.{is_in}
use Rattle.rules.specs.Adjustment.{Line}
use Rattle.rules.specs.Redone.{starts, start, first_redone, resumes, resumed}
use Rattle.rules.specs.Stable.{Resumes}
use Rattle.std.proofs.lemmas.Bool.{cases_Bool, true≢false, false_from_ne_true}
use Rattle.rules.proofs.FirstLines.{resumed_first, first_only}

-- a number among the starts of lines is the start of one of them
record StartOf (q i : ℕ) (ls : List Line) : Type 0 where
  pub line : ℕ
  pub there : line < length ls
  pub is : q ≡ i + start line ls

is_start : (q i : ℕ) (ls : List Line) → is_in q (starts i ls) ≡ true → StartOf q i ls
unfolding starts start
is_start q i [] h = absurd (true≢false (sym h))
is_start q i (l ∷ ls) h =
    elim (cases_Bool (eqb q i)) [
      | inl e ↦ record { line = 0; there = omega arith; is = omega (arith, eqb-true q i e) }
      | inr e ↦
          let s = is_start q (i + l.count) ls (rw e at h) in
          record { line = suc s.line; there = omega (arith, s.there); is = omega (arith, s.is) }
    ]

start_in : (q i : ℕ) (ls : List Line) (n : ℕ) → n < length ls → q ≡ i + start n ls → is_in q (starts i ls) ≡ true
unfolding starts start
start_in q i [] n h e = absurd (omega arith)
start_in q i (l ∷ ls) zero h e = rw (eq-eqb q i (omega arith))
start_in q i (l ∷ ls) (suc n) h e =
    elim (cases_Bool (eqb q i)) [
      | inl f ↦ rw f
      | inr f ↦ rw f (start_in q (i + l.count) ls n (omega arith) (omega arith))
    ]

-- an old line numbered at least 1
later_start : (q : ℕ) (old : List Line) → is_in q (drop 1 (starts 0 old)) ≡ true →
    (n : ℕ) × (1 ≤ n) × (n < length old) × (q ≡ start n old)
unfolding starts start
later_start q [] h = absurd (true≢false (sym h))
later_start q (l ∷ ls) h =
    let s = is_start q (0 + l.count) ls h in
    (suc s.line, omega arith, omega (arith, s.there), omega (arith, s.is))

later_in : (q : ℕ) (old : List Line) (n : ℕ) → 1 ≤ n → n < length old → q ≡ start n old →
    is_in q (drop 1 (starts 0 old)) ≡ true
unfolding starts start
later_in q old zero g h e = absurd (omega arith)
later_in q [] (suc n) g h e = absurd (omega arith)
later_in q (l ∷ ls) (suc n) g h e = start_in q (0 + l.count) ls n (omega arith) (omega arith)

-- the test of r, said without it
module _ (place deleted inserted : ℕ) (old : List Line) (j i : ℕ) where
  resumes_means : resumes place deleted inserted old j i ≡ true → Resumes place deleted inserted old j i
  resumes_means h =
      let t₃ = (and-eq-true_iff _ (is_in (i - inserted + deleted) (drop 1 (starts 0 old)))).0 h in
      let t₂ = (and-eq-true_iff _ (leb (place + inserted) i)).0 t₃.0 in
      let t₁ = (and-eq-true_iff (leb (first_redone place old) j) (leb 1 j)).0 t₂.0 in
      let s = later_start (i - inserted + deleted) old t₃.1 in
      let p = leb-true (place + inserted) i t₂.1 in
      record {
        from_f = leb-true (first_redone place old) j t₁.0;
        from_1 = leb-true 1 j t₁.1;
        past = p;
        again = s.0;
        numbered = s.1;
        there = s.2;
        same = omega (arith, s.3);
      }

  means_resumes : Resumes place deleted inserted old j i → resumes place deleted inserted old j i ≡ true
  means_resumes s =
      rw (
        le-leb (first_redone place old) j s.from_f,
        le-leb 1 j s.from_1,
        le-leb (place + inserted) i s.past,
        later_in (i - inserted + deleted) old s.again s.numbered s.there (omega arith),
      )

  pub resumes_exactly : (resumes place deleted inserted old j i ≡ true) ↔ Resumes place deleted inserted old j i
  resumes_exactly = (resumes_means, means_resumes)

module _ (place deleted inserted : ℕ) (old new : List Line) where
  pub not_resumed : (j i : ℕ) → (Resumes place deleted inserted old j i → ⊥) →
      resumes place deleted inserted old j i ≡ false
  not_resumed j i h = false_from_ne_true _ (λ e. h ((resumes_exactly place deleted inserted old j i).0 e))

  -- whoever has passed all lines, or found one that resumes, has r
  pub none_found : (n : ℕ) → length new ≤ n →
      ((i : ℕ) → i < n → resumes place deleted inserted old i (start i new) ≡ false) →
      resumed place deleted inserted old new ≡ length new
  none_found n h g =
      first_only (resumes place deleted inserted old) new _ _ (resumed_first place deleted inserted old new)
      record {
        none_before = λ i b. g i (omega arith);
        passes = λ b. absurd (omega arith);
        within = omega arith;
      }

  pub found : (j : ℕ) → j < length new →
      ((i : ℕ) → i < j → resumes place deleted inserted old i (start i new) ≡ false) →
      Resumes place deleted inserted old j (start j new) → resumed place deleted inserted old new ≡ j
  found j h g r =
      first_only (resumes place deleted inserted old) new _ _ (resumed_first place deleted inserted old new)
      record {
        none_before = g;
        passes = λ b. (resumes_exactly place deleted inserted old j (start j new)).1 r;
        within = omega arith;
      }
