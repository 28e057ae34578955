-- Whether a break is forbidden, as the spacing table's cell and the two code points tell it. Of the code points the
-- definition sees two things only, so that the cell tells it is computed over all pairs of classes. Assumes nothing.
use Rattle.std.proofs.Common.{◌≡◌, refl, ◌∙◌, ℕ, arith, Bool, true, false, cond, ltb, eqb, lt-ltb, le-ltb}
use Rattle.std.proofs.Math.Bool.{beq}
use Rattle.std.specs.Cmp.{booleans_Decides}
use Rattle.rules.specs.Records.{classes, class_ok}
use Rattle.rules.specs.Sides.{Side, arabic_digit, forbidden}
use Rattle.rules.specs.Spacing.{forbidden_at, break_of, joint_cell}
use Rattle.rules.specs.Computed.{computed}
use Rattle.rules.proofs.ComputedTables.{all_pairs, pairs_at}
use Rattle.rules.proofs.SpacingCells.{cell_small}

-- by a cell and its left class, where the code points are the same (s) or not and the left one is a digit (d) or not
abbrev pub told : ℕ → ℕ → Bool → Bool → Bool
told c L s d = cond (ltb c 16) false (cond (ltb c 32) true (cond (eqb L 8) s d))

-- two code points for each s and d serve for all
abbrev shown : ℕ → ℕ → Bool → Bool → Bool
shown L R s d = let c : ℕ = cond d 0x30 0 in forbidden_at L R c (cond s c 1)

forbidden_shown : (l r : Side) (s d : Bool) → eqb l.code r.code ≡ s → arabic_digit l.code ≡ d →
    forbidden l r ≡ shown l.class r.class s d
unfolding forbidden
forbidden_shown l r true true e f = rw (e, f)
forbidden_shown l r true false e f = rw (e, f)
forbidden_shown l r false true e f = rw (e, f)
forbidden_shown l r false false e f = rw (e, f)

abbrev agree : Bool → Bool → ℕ → ℕ → Bool
agree s d L R = beq (shown L R s d) (told (joint_cell L R) L s d)

breaks_agree : (s d : Bool) → all_pairs (agree s d) classes ≡ true
unfolding computed
breaks_agree true true = refl
breaks_agree true false = refl
breaks_agree false true = refl
breaks_agree false false = refl

pub forbidden_told : (l r : Side) → class_ok l.class ≡ true → class_ok r.class ≡ true →
    forbidden l r ≡ told (joint_cell l.class r.class) l.class (eqb l.code r.code) (arabic_digit l.code)
unfolding class_ok
forbidden_told l r h k =
    let s = eqb l.code r.code in
    let d = arabic_digit l.code in
    forbidden_shown l r s d refl refl
    ∙ (booleans_Decides _ _).0 (pairs_at (agree s d) classes (breaks_agree s d) l.class r.class h k)

-- what the break in the cell says
module _ (l r : Side) (h : class_ok l.class ≡ true) (k : class_ok r.class ≡ true) where
  pub break_permitted : break_of l.class r.class ≡ 0 → forbidden l r ≡ false
  unfolding joint_cell
  break_permitted e =
      rw (lt-ltb (joint_cell l.class r.class) 16 (omega (arith, e, cell_small l.class r.class h k)))
      at (forbidden_told l r h k)

  pub break_forbidden : break_of l.class r.class ≡ 1 → forbidden l r ≡ true
  unfolding joint_cell
  break_forbidden e =
      rw (
        le-ltb (joint_cell l.class r.class) 16 (omega (arith, e)),
        lt-ltb (joint_cell l.class r.class) 32 (omega (arith, e, cell_small l.class r.class h k)),
      )
      at (forbidden_told l r h k)

  pub break_by_code : break_of l.class r.class ≡ 2 →
      forbidden l r ≡ cond (eqb l.class 8) (eqb l.code r.code) (arabic_digit l.code)
  unfolding joint_cell
  break_by_code e =
      rw (
        le-ltb (joint_cell l.class r.class) 16 (omega (arith, e)),
        le-ltb (joint_cell l.class r.class) 32 (omega (arith, e)),
      )
      at (forbidden_told l r h k)

pub ruleset told_by_break = (break_permitted, break_forbidden, break_by_code)
