-- Laws of the smallest width. Assumes nothing.
use Rattle.std.proofs.Common.{◌≡◌, refl, ℕ, ◌+◌, ◌≤◌, arith, List, [], ◌∷◌, ◌++◌}
use Rattle.rules.specs.Groups.{TextUnit}
use Rattle.rules.specs.Space.{Space}
use Rattle.rules.specs.Gaps.{Flexibility, punctuation, japanese_western, fixed, gap_by, gap_of, least}
use Rattle.rules.specs.Breaks.{gap, smallest}
use Rattle.rules.specs.Adjustment.{totals, unit_advances}
use Rattle.rules.specs.Meanings.{last_of}

-- a line with more units after it is no narrower
pub wider : (u : TextUnit) (us vs : List TextUnit) → smallest u us ≤ smallest u (us ++ vs)
unfolding smallest
wider u [] [] = omega arith
wider u [] (v ∷ vs) = omega arith
wider u (w ∷ us) vs = omega (arith, wider w us vs)

-- the smallest width of two runs, one after the other
pub width_extended : (u : TextUnit) (us : List TextUnit) (v : TextUnit) (vs : List TextUnit) →
    smallest u (us ++ v ∷ vs) ≡ smallest u us + (least (gap (last_of u us) v) + smallest v vs)
unfolding smallest
width_extended u [] v vs = refl
width_extended u (t ∷ us) v vs = omega (arith, width_extended t us v vs)

-- a gap gives no more than it has
gives_by : (f : Flexibility) (p : Space) (l r w : ℕ) →
    (gap_by f p l r w).shrink₁ + (gap_by f p l r w).shrink₂ ≤ (gap_by f p l r w).space
unfolding gap_by
gives_by punctuation p l r w = omega arith
gives_by japanese_western p l r w = omega arith
gives_by fixed p l r w = omega arith

pub gives : (u v : TextUnit) → (gap u v).shrink₁ + (gap u v).shrink₂ ≤ (gap u v).space
unfolding gap_of
gives u v = gives_by _ _ _ _ _

-- natural width and smallest width differ by what the gaps give
pub natural_smallest : (u : TextUnit) (us : List TextUnit) →
    unit_advances (u ∷ us) + (totals u us).space ≡ smallest u us + (totals u us).shrink₁ + (totals u us).shrink₂
unfolding smallest unit_advances totals
natural_smallest u [] = omega arith
natural_smallest u (v ∷ us) = omega (arith, natural_smallest v us, gives u v)
