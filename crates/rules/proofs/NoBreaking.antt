-- Answer 10 is given exactly where there is no choice that fits, and names the first run that is too wide.
-- Assumes nothing.
use Rattle.std.proofs.Common.{◌≡◌, refl, ap, sym, ◌∙◌, ℕ, ◌+◌, arith, List, [], ◌∷◌, ◌++◌, inl, inr, ◌↔◌, Option}
use Rattle.std.proofs.Common.{None, Some, leb, leb-true, leb-false}
use Rattle.rules.specs.Basics.{Run, whole, joined}
use Rattle.rules.specs.Groups.{TextUnit, counts}
use Rattle.rules.specs.Breaks.{width, runs, wide_run, no_breaking, breaking}
use Rattle.rules.specs.Meanings.{Choice, Fits, fits_none, fits_more, start_of, FirstWide}
use Rattle.std.proofs.lemmas.Bool.{cases_Bool}
use Rattle.std.proofs.lemmas.Option.{same_Some, none-some}
use Rattle.rules.proofs.Breaking.{fit_runs, choice_runs, breaking_choice, lines_fit}

-- Answer 10 is not due exactly where some choice of permitted breaks fits
pub breaking_exists : (m x : ℕ) (us : List TextUnit) →
    (no_breaking m x us ≡ None) ↔ ((ls : List (Run TextUnit)) × Choice us ls × Fits m x ls)
unfolding no_breaking runs
breaking_exists m x us = (
  λ h. (breaking m x (runs us), breaking_choice m x us, lines_fit m x us h),
  λ c. fit_runs m x 0 (runs us) (rw c.1.joins_up at (choice_runs m x c.0 c.1.permitted c.2)),
)

-- and due exactly where none does
pub due_exactly : (m x : ℕ) (us : List TextUnit) →
    ((i : ℕ) × (no_breaking m x us ≡ Some i)) ↔ (((ls : List (Run TextUnit)) × Choice us ls × Fits m x ls) → ⊥)
due_exactly m x us = (
  λ d c. none-some _ (sym ((breaking_exists m x us).1 c) ∙ d.1),
  λ n. from (no_breaking m x us) refl n,
)
  where
    from : (o : Option ℕ) → no_breaking m x us ≡ o → (((ls : List (Run TextUnit)) × Choice us ls × Fits m x ls) → ⊥) →
        (i : ℕ) × (no_breaking m x us ≡ Some i)
    from None e n = absurd (n ((breaking_exists m x us).0 e))
    from (Some i) e n = (i, e)

-- its place: the first record of the first run that is too wide

pub counts_append : (us vs : List TextUnit) → counts (us ++ vs) ≡ counts us + counts vs
unfolding counts
counts_append [] vs = omega arith
counts_append (u ∷ us) vs = omega (arith, counts_append us vs)

start_zero : {A : Type 0} (bs : List A) → start_of 0 bs ≡ 0
start_zero [] = refl
start_zero (b ∷ bs) = refl

wide_place : (m x i j : ℕ) (ls : List (Run TextUnit)) → wide_run m x i ls ≡ Some j →
    (k : ℕ) × (j ≡ i + k) × FirstWide m x ls k
unfolding wide_run joined counts
wide_place m x i j [] h = absurd (none-some _ h)
wide_place m x i j (l ∷ ls) h =
    elim (cases_Bool (leb (x + width l) m)) [
      | inl e ↦
          let r = wide_place m 0 (i + counts (whole l)) j ls (rw (e, wide_run) at h) in
          let f = r.2 in (
            counts (whole l) + r.0,
            omega (arith, r.1),
            record {
              before = l ∷ f.before;
              run = f.run;
              after = f.after;
              all = ap (λ t. l ∷ t) f.all;
              fit = fits_more (leb-true _ _ e) f.fit;
              wide = omega (arith, f.wide, start_zero f.before);
              place = ap (λ n. counts (whole l) + n) f.place ∙ sym (counts_append (whole l) (joined f.before));
            },
          )
      | inr e ↦
          let q : i ≡ j = same_Some _ _ (rw (e, wide_run) at h) in (
            0,
            omega arith,
            record {
              before = [];
              run = l;
              after = ls;
              all = refl;
              fit = fits_none;
              wide = leb-false _ _ e;
              place = refl;
            },
          )
    ]

pub place_of_10 : (m x : ℕ) (us : List TextUnit) (i : ℕ) → no_breaking m x us ≡ Some i → FirstWide m x (runs us) i
unfolding no_breaking
place_of_10 m x us i h =
    let r = wide_place m x 0 i (runs us) h in
    let e : r.0 ≡ i = omega (arith, r.1) in
    rw e at r.2
