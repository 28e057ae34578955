-- The sums that the search for the longest line keeps, and how they grow by a gap and by a run. Assumes nothing.
use Rattle.std.proofs.Common.{◌≡◌, refl, ◌∙◌, ℕ, ◌+◌, ◌≤◌, arith, add_assoc, add-zero, List, [], ◌∷◌, ◌++◌}
use Rattle.rules.specs.Basics.{Run}
use Rattle.rules.specs.Groups.{TextUnit, count, counts, advance}
use Rattle.rules.specs.Gaps.{Gap, least}
use Rattle.rules.specs.Breaks.{gap, width}
use Rattle.rules.specs.Gaps.{plus, no_gaps}
use Rattle.rules.specs.Adjustment.{totals, unit_advances}
use Rattle.rules.specs.Meanings.{last_of}
use Rattle.rules.proofs.Widths.{gives, natural_smallest}

-- of some units: the record after them, where they end if they stand solid, what their gaps add up to
pub record Sums : Type 0 where
  pub end : ℕ
  pub solid : ℕ
  pub gaps : Gap

-- of no units, before record i, at x
abbrev pub no_units : ℕ → ℕ → Sums
no_units i x = record { end = i; solid = x; gaps = no_gaps }

-- with n records more, which advance by a; with a gap more
abbrev pub moved : Sums → ℕ → ℕ → Sums
moved s n a = record { end = s.end + n; solid = s.solid + a; gaps = s.gaps }

abbrev pub spaced : Sums → Gap → Sums
spaced s g = record { end = s.end; solid = s.solid; gaps = plus s.gaps g }

-- with units more
unfoldable pub onto_units : Sums → TextUnit → List TextUnit → Sums
onto_units s u [] = moved s (count u) (advance u)
onto_units s u (v ∷ us) = onto_units (spaced (moved s (count u) (advance u)) (gap u v)) v us

abbrev pub onto : Sums → Run TextUnit → Sums
onto s l = onto_units s l.first l.rest

-- where the units end if every gap is at its least
abbrev pub reach : Sums → ℕ
reach s = s.solid + least s.gaps

-- units before others
pub units_append : (s : Sums) (u : TextUnit) (us : List TextUnit) (v : TextUnit) (vs : List TextUnit) →
    onto_units (spaced (onto_units s u us) (gap (last_of u us) v)) v vs ≡ onto_units s u (us ++ v ∷ vs)
unfolding onto_units
units_append s u [] v vs = refl
units_append s u (t ∷ us) v vs = units_append (spaced (moved s (count u) (advance u)) (gap u t)) t us v vs

pub units_sums : (s : Sums) (u : TextUnit) (us : List TextUnit) →
    onto_units s u us ≡ spaced (moved s (counts (u ∷ us)) (unit_advances (u ∷ us))) (totals u us)
unfolding onto_units counts unit_advances totals
units_sums s u [] = simp add-zero
units_sums s u (v ∷ us) = units_sums (spaced (moved s (count u) (advance u)) (gap u v)) v us ∙ simp add_assoc

-- gaps give no more than they have
totals_give : (u : TextUnit) (us : List TextUnit) → (totals u us).shrink₁ + (totals u us).shrink₂ ≤ (totals u us).space
unfolding totals
totals_give u [] = omega arith
totals_give u (v ∷ us) = omega (arith, totals_give v us, gives u v)

pub reach_more : (s : Sums) (u v : TextUnit) (us : List TextUnit) →
    reach s ≤ reach (onto_units (spaced s (gap u v)) v us)
reach_more s u v us = rw units_sums (omega (arith, gives u v, totals_give v us))

-- a line's smallest width is what it reaches
pub reach_width : (i x : ℕ) (l : Run TextUnit) → reach (onto (no_units i x) l) ≡ x + width l
reach_width i x l =
    rw units_sums (omega (arith, natural_smallest l.first l.rest, totals_give l.first l.rest))
