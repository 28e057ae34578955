-- docs/RULES.md, "How many lines an edit composes anew": r is the first line that passes its test, and no other is.
-- Assumes nothing.
use Rattle.std.proofs.Common.{◌≡◌, sym, ◌∙◌, ℕ, zero, suc, ◌+◌, ◌≤◌, ◌<◌, arith, add-zero, zero-add, add-suc, suc-add}
use Rattle.std.proofs.Common.{add_assoc, Bool, false, List, [], ◌∷◌, inl, inr}
use Rattle.rules.specs.Adjustment.{Line}
use Rattle.rules.specs.Redone.{start, first_line, resumes, resumed}
use Rattle.rules.specs.Stable.{FirstThat}
use Rattle.std.proofs.lemmas.Bool.{cases_Bool, cases_lt, true≢false}

-- of lines, the first of which is line j, starts at record i and does not pass
first_later : (t : ℕ → ℕ → Bool) (j i : ℕ) (l : Line) (ls : List Line) (n : ℕ) → t j i ≡ false →
    FirstThat (λ k s. t (suc j + k) (i + l.count + s)) ls n → FirstThat (λ k s. t (j + k) (i + s)) (l ∷ ls) (suc n)
unfolding start
first_later t j i l ls n e g =
    record {
      none_before = from;
      passes = λ h. rw (add-suc, ← suc-add, ← add_assoc) (g.passes (omega arith));
      within = omega (arith, g.within);
    }
  where
    from : (k : ℕ) → k < suc n → t (j + k) (i + start k (l ∷ ls)) ≡ false
    from zero h = rw (add-zero, add-zero) e
    from (suc k) h = rw (add-suc, ← suc-add, ← add_assoc) (g.none_before k (omega arith))

first_from : (t : ℕ → ℕ → Bool) (j i : ℕ) (ls : List Line) →
    (n : ℕ) × (first_line t j i ls ≡ j + n) × FirstThat (λ k s. t (j + k) (i + s)) ls n
unfolding first_line start
first_from t j i [] = (
  0,
  omega arith,
  record {
    none_before = λ k h. absurd (omega arith);
    passes = λ h. absurd (omega arith);
    within = omega arith;
  },
)
first_from t j i (l ∷ ls) =
    elim (cases_Bool (t j i)) [
      | inl e ↦ (
        0,
        rw (e, first_line) (omega arith),
        record {
          none_before = λ k h. absurd (omega arith);
          passes = λ h. rw (add-zero, add-zero) e;
          within = omega arith;
        },
      )
      | inr e ↦
          let g = first_from t (suc j) (i + l.count) ls in
          (suc g.0, (rw (e, first_line) (omega (arith, g.1))), first_later t j i l ls g.0 e g.2)
    ]

-- r is the first line that passes its test
pub resumed_first : (place deleted inserted : ℕ) (old new : List Line) →
    FirstThat (resumes place deleted inserted old) new (resumed place deleted inserted old new)
unfolding resumed
resumed_first place deleted inserted old new =
    let f = first_from (resumes place deleted inserted old) 0 0 new in
    let e : first_line (resumes place deleted inserted old) 0 0 new ≡ f.0 = omega (arith, f.1) in
    rw e (simp zero-add at f.2)

-- only one line is the first, so whoever finds it has r
not_sooner : (t : ℕ → ℕ → Bool) (ls : List Line) (r s : ℕ) → FirstThat t ls r → FirstThat t ls s → s ≤ r
not_sooner t ls r s f g =
    elim (cases_lt r s) [
      | inl h ↦
          absurd (true≢false (sym (f.passes (omega (arith, g.within))) ∙ g.none_before r h))
      | inr h ↦ h
    ]

pub first_only : (t : ℕ → ℕ → Bool) (ls : List Line) (r s : ℕ) → FirstThat t ls r → FirstThat t ls s → r ≡ s
first_only t ls r s f g = omega (arith, not_sooner t ls r s f g, not_sooner t ls s r g f)
