-- The breaking: where every run fits, the lines are a choice of permitted breaks in which every line fits.
-- Assumes nothing.
use Rattle.std.proofs.Common.{◌≡◌, refl, ap, sym, subst, ◌∙◌, ℕ, ◌+◌, ◌≤◌, arith, List, [], ◌∷◌, ◌++◌, append_assoc}
use Rattle.std.proofs.Common.{append-nil, inl, inr, None, Some, leb, leb-true, le-leb}
use Rattle.rules.specs.Basics.{Run, alone, whole, extended, joined, link, cut}
use Rattle.rules.specs.Groups.{TextUnit, advance, counts}
use Rattle.rules.specs.Gaps.{least}
use Rattle.rules.specs.Breaks.{forbidden_between, gap, smallest, width, runs, wide_run, no_breaking, filled}
use Rattle.rules.specs.Breaks.{breaking}
use Rattle.rules.specs.Meanings.{Apart, apart_none, apart_more, Choice, Fits, fits_none, fits_more}
use Rattle.std.proofs.lemmas.Bool.{cases_Bool}
use Rattle.std.proofs.lemmas.Option.{none-some}
use Rattle.rules.proofs.Cuts.{last_append, cut_joined, cut_apart, apart_alike, cut_first, cut_split}

-- no run is named exactly where every run fits
runs_fit : (m x i : ℕ) (ls : List (Run TextUnit)) → wide_run m x i ls ≡ None → Fits m x ls
unfolding wide_run
runs_fit m x i [] h = fits_none
runs_fit m x i (l ∷ ls) h =
    elim (cases_Bool (leb (x + width l) m)) [
      | inl e ↦ fits_more (leb-true _ _ e) (runs_fit m 0 _ ls (rw (e, wide_run) at h))
      | inr e ↦ let z : Some i ≡ None = rw (e, wide_run) at h in absurd (none-some _ (sym z))
    ]

pub fit_runs : (m x i : ℕ) (ls : List (Run TextUnit)) → Fits m x ls → wide_run m x i ls ≡ None
unfolding wide_run
fit_runs m x i [] f = refl
fit_runs m x i (l ∷ ls) (fits_more h f) = rw (le-leb _ _ h, wide_run) (fit_runs m 0 (i + counts (whole l)) ls f)

link_fits : (m x : ℕ) (u : TextUnit) (l : Run TextUnit) (ls : List (Run TextUnit)) → x + advance u ≤ m →
    Fits m (x + (advance u + least (gap u l.first))) (l ∷ ls) → Fits m 0 (l ∷ ls) →
    Fits m x (link forbidden_between u (l ∷ ls))
unfolding smallest
link_fits m x u l ls a (fits_more h f) g =
    elim (cases_Bool (forbidden_between u l.first)) [
      | inl e ↦ let n : x + width (extended (alone u) l) ≤ m = omega arith in rw e (fits_more n f)
      | inr e ↦ rw e (fits_more a g)
    ]

-- where a line fits, so do the runs in it
line_runs : (m x : ℕ) (u : TextUnit) (us : List TextUnit) → x + smallest u us ≤ m →
    Fits m x (cut forbidden_between (u ∷ us))
unfolding cut smallest
line_runs m x u [] h = fits_more h fits_none
line_runs m x u (v ∷ us) h =
    let f = cut_first forbidden_between v us in
    let longer = line_runs m (x + (advance u + least (gap u v))) v us (omega arith) in
    let shorter = line_runs m 0 v us (omega arith) in
    rw f.2 (link_fits m x u f.0 f.1 (omega arith) (rw f.3 (rw f.2 at longer)) (rw f.2 at shorter))

fits_append : (m x : ℕ) (l : Run TextUnit) (ls ks : List (Run TextUnit)) → Fits m x (l ∷ ls) → Fits m 0 ks →
    Fits m x (l ∷ ls ++ ks)
fits_append m x l [] ks (fits_more h f) g = fits_more h g
fits_append m x l (j ∷ ls) ks (fits_more h f) g = fits_more h (fits_append m 0 j ls ks f g)

-- where every line of a choice fits, every run does
pub choice_runs : (m x : ℕ) (ls : List (Run TextUnit)) → Apart forbidden_between ls → Fits m x ls →
    Fits m x (cut forbidden_between (joined ls))
unfolding joined cut
choice_runs m x [] p f = fits_none
choice_runs m x (l ∷ []) p (fits_more h f) =
    subst (λ us. Fits m x (cut forbidden_between us)) (sym (append-nil (whole l))) (line_runs m x l.first l.rest h)
choice_runs m x (l ∷ k ∷ ls) (apart_more e p) (fits_more h f) =
    let c = cut_first forbidden_between l.first l.rest in
    let one = line_runs m x l.first l.rest h in
    let others = choice_runs m 0 (k ∷ ls) p f in
    rw (cut_split forbidden_between l.first l.rest k.first (k.rest ++ joined ls) e, c.2)
    (fits_append m x c.0 c.1 _ (rw c.2 at one) others)

-- the lines: a choice of permitted breaks, and every line fits

filled_fits : (m x : ℕ) (l : Run TextUnit) (ks : List (Run TextUnit)) → x + width l ≤ m → Fits m 0 ks →
    Fits m x (filled m x l ks)
unfolding filled
filled_fits m x l [] h f = fits_more h f
filled_fits m x l (k ∷ ks) h (fits_more g f) =
    elim (cases_Bool (leb (x + width (extended l k)) m)) [
      | inl e ↦ rw (e, filled) (filled_fits m x (extended l k) ks (leb-true _ _ e) f)
      | inr e ↦ rw (e, filled) (fits_more h (filled_fits m 0 k ks g f))
    ]

breaking_fits : (m x : ℕ) (ls : List (Run TextUnit)) → Fits m x ls → Fits m x (breaking m x ls)
unfolding breaking
breaking_fits m x [] f = fits_none
breaking_fits m x (l ∷ ls) (fits_more h f) = filled_fits m x l ls h f

pub filled_joined : (m x : ℕ) (l : Run TextUnit) (ks : List (Run TextUnit)) →
    joined (filled m x l ks) ≡ joined (l ∷ ks)
unfolding filled joined
filled_joined m x l [] = refl
filled_joined m x l (k ∷ ks) =
    elim (cases_Bool (leb (x + width (extended l k)) m)) [
      | inl e ↦ rw (e, filled) (filled_joined m x (extended l k) ks ∙ simp append_assoc)
      | inr e ↦ rw (e, filled) (ap (λ t. whole l ++ t) (filled_joined m 0 k ks))
    ]

breaking_joined : (m x : ℕ) (ls : List (Run TextUnit)) → joined (breaking m x ls) ≡ joined ls
unfolding breaking
breaking_joined m x [] = refl
breaking_joined m x (l ∷ ls) = filled_joined m x l ls

-- lines that begin with l, which starts with u
pub filled_first : (m x : ℕ) (l : Run TextUnit) (ks : List (Run TextUnit)) →
    (k : Run TextUnit) × (js : List (Run TextUnit)) × (filled m x l ks ≡ k ∷ js) × (k.first ≡ l.first)
unfolding filled
filled_first m x l [] = (l, [], refl, refl)
filled_first m x l (k ∷ ks) =
    elim (cases_Bool (leb (x + width (extended l k)) m)) [
      | inl e ↦ let f = filled_first m x (extended l k) ks in (f.0, f.1, (rw (e, filled) f.2), f.3)
      | inr e ↦ (l, filled m 0 k ks, (rw (e, filled)), refl)
    ]

filled_apart : (m x : ℕ) (l : Run TextUnit) (ks : List (Run TextUnit)) → Apart forbidden_between (l ∷ ks) →
    Apart forbidden_between (filled m x l ks)
unfolding filled
filled_apart m x l [] h = h
filled_apart m x l (k ∷ ks) (apart_more g h) =
    elim (cases_Bool (leb (x + width (extended l k)) m)) [
      | inl e ↦
          let last = sym (last_append l.first l.rest k.first k.rest) in
          rw (e, filled) (filled_apart m x (extended l k) ks (apart_alike forbidden_between last h))
      | inr e ↦
          let f = filled_first m 0 k ks in
          let a : Apart forbidden_between (f.0 ∷ f.1) = rw f.2 at (filled_apart m 0 k ks h) in
          rw (e, filled, f.2) (apart_more {l = l} {k = f.0} (rw f.3 g) a)
    ]

breaking_apart : (m x : ℕ) (ls : List (Run TextUnit)) → Apart forbidden_between ls →
    Apart forbidden_between (breaking m x ls)
unfolding breaking
breaking_apart m x [] h = apart_none
breaking_apart m x (l ∷ ls) h = filled_apart m x l ls h

pub breaking_choice : (m x : ℕ) (us : List TextUnit) → Choice us (breaking m x (runs us))
unfolding runs
breaking_choice m x us =
    record {
      joins_up = breaking_joined m x (runs us) ∙ cut_joined forbidden_between us;
      permitted = breaking_apart m x (runs us) (cut_apart forbidden_between us);
    }

pub lines_fit : (m x : ℕ) (us : List TextUnit) → no_breaking m x us ≡ None → Fits m x (breaking m x (runs us))
unfolding no_breaking
lines_fit m x us h = breaking_fits m x (runs us) (runs_fit m x 0 (runs us) h)
