-- Cumulative shares of amounts: no gap gives more than it has, and where the unit after some gaps starts. Assumes
-- nothing.
use Rattle.std.proofs.Common.{◌≡◌, ℕ, ◌+◌, ◌≤◌, arith, List, [], ◌∷◌}
use Rattle.rules.specs.Groups.{TextUnit, advance}
use Rattle.rules.specs.Gaps.{Gap}
use Rattle.rules.specs.Breaks.{gap}
use Rattle.rules.specs.Adjustment.{Amounts, totals, unit_advances, adjusted, ending}
use Rattle.rules.specs.Gaps.{plus, no_gaps}
use Rattle.rules.proofs.Shares.{none_yet, ending_sum}
use Rattle.rules.proofs.Widths.{gives}
use Rattle.compose.specs.Limits.{largest_place}
use Rattle.compose.specs.Rates.{cumulative_shares, place_by, RateBounds, Placeable}
use Rattle.compose.proofs.Rates.{share_within, share_cap}

-- before the first gap nothing is shared
pub place_first : (e : Amounts) (c : Gap) (x : ℕ) → place_by e c x no_gaps ≡ x
unfolding place_by
place_first e c x = simp none_yet (omega arith)

-- a gap gives no more than it has
abbrev pub Gives : Gap → Type 0
Gives g = g.shrink₁ + g.shrink₂ ≤ g.space

-- amounts e that the gaps c can take
module _ {e : Amounts} {c : Gap} (b : RateBounds e c) where
  -- gaps s are not shrunk by more than they have
  shares_given : (s : Gap) → Gives s → (cumulative_shares e c s).shrink₁ + (cumulative_shares e c s).shrink₂ ≤ s.space
  shares_given s k =
      omega (
        arith,
        share_cap e.shrink₁ s.shrink₁ c.shrink₁ b.shrink₁,
        share_cap e.shrink₂ s.shrink₂ c.shrink₂ b.shrink₂,
      )

  -- a place without a difference
  place_sum : (s : Gap) (solid : ℕ) → Gives s →
      place_by e c solid s + (cumulative_shares e c s).shrink₁ + (cumulative_shares e c s).shrink₂
      ≡ solid + s.space + (cumulative_shares e c s).stretch₁ + (cumulative_shares e c s).stretch₂
  unfolding place_by
  place_sum s solid k = omega (arith, shares_given s k)

  -- one unit more, and the gap after it: a line of two units ends as the sums say
  pub place_next : (s : Gap) (solid : ℕ) (u v : TextUnit) → Gives s →
      place_by e c solid s + advance u + adjusted e c s (gap u v)
      ≡ place_by e c (solid + advance u) (plus s (gap u v))
  unfolding ending totals unit_advances
  place_next s solid u v k =
      omega (
        arith,
        place_sum s solid k,
        place_sum (plus s (gap u v)) (solid + advance u) (omega (arith, gives u v)),
        ending_sum e c (plus s (gap u v)) b.shrink₁ b.shrink₂ s (place_by e c solid s) u (v ∷ []) (omega arith)
            (omega arith) (omega arith) (omega arith),
      )

  -- where a line ends
  pub place_end : (x : ℕ) (u : TextUnit) (us : List TextUnit) → Gives (totals u us) →
      place_by e c (x + unit_advances (u ∷ us)) (totals u us) ≡ ending e c no_gaps x u us
  place_end x u us k =
      omega (
        arith,
        place_sum (totals u us) (x + unit_advances (u ∷ us)) k,
        simp none_yet at (ending_sum e c (totals u us) b.shrink₁ b.shrink₂ no_gaps x u us (omega arith)
            (omega arith) (omega arith) (omega arith)),
      )

-- what cumulative shares come to: each no more than its amount, and those that shrink no more than the gaps give
pub record ShareBounds (e : Amounts) (c s : Gap) : Type 0 where
  pub gives : (cumulative_shares e c s).shrink₁ + (cumulative_shares e c s).shrink₂ ≤ s.space
  pub shrink₁ : (cumulative_shares e c s).shrink₁ ≤ e.shrink₁
  pub shrink₂ : (cumulative_shares e c s).shrink₂ ≤ e.shrink₂
  pub stretch₁ : (cumulative_shares e c s).stretch₁ ≤ e.stretch₁
  pub stretch₂ : (cumulative_shares e c s).stretch₂ ≤ e.stretch₂

module _ {e : Amounts} {c : Gap} (b : RateBounds e c) {solid : ℕ} {s : Gap} (p : Placeable c solid s) where
  pub share_bounds : ShareBounds e c s
  share_bounds = search (shares_given, share_within)

  -- the same of gaps z that are s, unpacked
  pub unpacked_shares : {z : Gap} → z ≡ s → Placeable c solid z × ShareBounds e c z
  unpacked_shares q = rw q (p, share_bounds)

  pub place_limit : place_by e c solid s ≤ largest_place
  unfolding place_by
  place_limit = omega (arith, share_bounds, b, p)
