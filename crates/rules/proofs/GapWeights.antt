-- The weight of a gap, 0 or 1, as the program asks for it: by the break, and by the class on the left. Assumes
-- nothing.
use Rattle.std.proofs.Common.{◌≡◌, sym, ℕ, ◌≤◌, arith, Bool, true, false, cond, not, ◌&&◌, inl, inr, eqb, eqb-true}
use Rattle.std.proofs.Common.{eq-eqb}
use Rattle.std.proofs.Math.Bool.{and-eq-true_iff}
use Rattle.rules.specs.Space.{quarter, rule_of, space_by, space_of}
use Rattle.rules.specs.Sides.{Side, forbidden}
use Rattle.rules.specs.Gaps.{weight}
use Rattle.rules.specs.Spacing.{solid, eighths, same_space, agrees}
use Rattle.std.proofs.lemmas.Bool.{cases_Bool, true≢false, false_from_ne_true}

-- before class 5 a break is forbidden
before_dot : (L R : Side) → forbidden L R ≡ false → eqb R.class 5 ≡ false
unfolding forbidden
before_dot L R h =
    false_from_ne_true _ (λ e. let five : R.class ≡ 5 = eqb-true R.class 5 e in true≢false (rw five at h))

pub weight_forbidden : (L R : Side) → forbidden L R ≡ true → weight L R ≡ 0
unfolding weight
weight_forbidden L R h = rw h

pub weight_dot : (L R : Side) → L.class ≡ 5 → weight L R ≡ 0
unfolding weight
weight_dot L R h =
    elim (cases_Bool (forbidden L R)) [ inl f ↦ rw f | inr f ↦ rw (f, eq-eqb L.class 5 h) ]

pub weight_free : (L R : Side) → forbidden L R ≡ false → eqb L.class 5 ≡ false → weight L R ≡ 1
unfolding weight
weight_free L R h e = rw (h, e, before_dot L R h)

-- a solid gap does not stand after class 5
dot_spaced : (R : ℕ) → (space_of 5 R).left ≡ quarter
unfolding space_of rule_of space_by
dot_spaced R = elim (cases_Bool (eqb R 5)) [ inl e ↦ rw e | inr e ↦ rw e ]

pub solid_after : (L R : ℕ) → agrees solid L R ≡ true → eqb L 5 ≡ false
unfolding agrees
solid_after L R h =
    let same = ((and-eq-true_iff (same_space solid.space (space_of L R)) _).0 h).0 in
    let left = ((and-eq-true_iff (eqb 0 (eighths (space_of L R).left)) _).0 same).0 in
    false_from_ne_true _
    (λ e.
    let some : (space_of L R).left ≡ quarter = rw (eqb-true L 5 e) (dot_spaced R) in
    true≢false (sym (rw some at left)))

one_at_most : (b : Bool) → cond b 1 0 ≤ 1
one_at_most true = omega arith
one_at_most false = omega arith

pub weight_most : (L R : Side) → weight L R ≤ 1
unfolding weight
weight_most L R = one_at_most (not (forbidden L R) && not (eqb L.class 5) && not (eqb R.class 5))
