-- The adjustment of a line as the program holds it: structs read as the rules' records, and the place of a unit by
-- rates.
--
--   amounts      E, of the four stages
--   rate         of an amount E over a capacity C: what each unit of capacity takes, in parts, rounded up
--   cumulative_shares  of the amounts, up to gaps that add up to S: floor(E·S/C) at each stage
--   place_by     where the unit after some units and gaps starts, from what they add up to
--
-- A line's gaps add up to c, and those up to one of them to s.
-- Assumes nothing.
use Rattle.std.specs.Prelude.{◌≡◌, ℕ, ◌+◌, ◌*◌, ◌-◌, ◌/◌, ◌≤◌, ◌<◌}
use Rattle.rules.specs.Limits.{largest_measure}
use Rattle.rules.specs.Gaps.{Gap}
use Rattle.rules.specs.Adjustment.{Amounts, cumulative_share}
use Rattle.rules.specs.Packed.{Packs, AtMost}
use Rattle.compose.specs.Limits.{most_gaps, largest_solid, largest_space, parts}
use Rattle.compose.specs.declared.adjustment.Stages.{Stages}
use Rattle.compose.specs.declared.adjustment.Adjusting.{Adjusting}
use Rattle.compose.specs.declared.adjustment.Adjusting.TheVariants.{Shrink, Stretch}

abbrev pub amounts_from : Stages → Amounts
amounts_from e = record { shrink₁ = e.shrink1; shrink₂ = e.shrink2; stretch₁ = e.stretch1; stretch₂ = e.stretch2 }

-- gaps that add up to s are among those that add up to c
pub record PartOf (s c : Gap) : Type 0 where
  pub shrink₁ : s.shrink₁ ≤ c.shrink₁
  pub shrink₂ : s.shrink₂ ≤ c.shrink₂
  pub stretch₁ : s.stretch₁ ≤ c.stretch₁
  pub stretch₂ : s.stretch₂ ≤ c.stretch₂

unfoldable pub rate_of : ℕ → ℕ → ℕ
rate_of e c = e * parts / c + 1

-- amounts that the gaps c can take, or at most a measure, and what the gaps come to. No line shrinks and stretches
pub record RateBounds (e : Amounts) (c : Gap) : Type 0 where
  pub shrink₁ : e.shrink₁ ≤ c.shrink₁
  pub shrink₂ : e.shrink₂ ≤ c.shrink₂
  pub stretch₁ : e.stretch₁ ≤ largest_measure
  pub stretch₂ : e.stretch₂ ≤ largest_measure
  pub one_way : 0 < e.shrink₁ + e.shrink₂ → e.stretch₁ + e.stretch₂ ≡ 0
  pub total : AtMost most_gaps c
  pub packs : Packs c

-- the rates of the two stages of a line that shrinks, and of one that does not
pub record ShrinkRates (first second : ℕ) (e : Amounts) (c : Gap) : Type 0 where
  pub first_is : first ≡ rate_of e.shrink₁ c.shrink₁
  pub second_is : second ≡ rate_of e.shrink₂ c.shrink₂
  pub unstretched : e.stretch₁ + e.stretch₂ ≡ 0

pub record StretchRates (first second : ℕ) (e : Amounts) (c : Gap) : Type 0 where
  pub first_is : first ≡ rate_of e.stretch₁ c.stretch₁
  pub second_is : second ≡ rate_of e.stretch₂ c.stretch₂
  pub unshrunk : e.shrink₁ + e.shrink₂ ≡ 0

pub record RatesOf (r : Adjusting) (e : Amounts) (c : Gap) : Type 0 where
  pub shrinking : (first second : ℕ) → r ≡ Shrink first second → ShrinkRates first second e c
  pub stretching : (first second : ℕ) → r ≡ Stretch first second → StretchRates first second e c

-- what the gaps that add up to s take of amounts e over totals c
abbrev pub cumulative_shares : Amounts → Gap → Gap → Amounts
cumulative_shares e c s =
    record {
      shrink₁ = cumulative_share e.shrink₁ c.shrink₁ s.shrink₁;
      shrink₂ = cumulative_share e.shrink₂ c.shrink₂ s.shrink₂;
      stretch₁ = cumulative_share e.stretch₁ c.stretch₁ s.stretch₁;
      stretch₂ = cumulative_share e.stretch₂ c.stretch₂ s.stretch₂;
    }

-- where the unit after some gaps starts: after advances that end at `solid` where they stand solid, the gaps' spaces,
-- and the cumulative shares up to them
unfoldable pub place_by : Amounts → Gap → ℕ → Gap → ℕ
place_by e c solid s =
    let f = cumulative_shares e c s in
    solid + (s.space - f.shrink₁ - f.shrink₂) + f.stretch₁ + f.stretch₂

-- a place that can be told from a line's rates: after units that end at `solid` and gaps that add up to s, of those
-- that add up to c
pub record Placeable (c : Gap) (solid : ℕ) (s : Gap) : Type 0 where
  pub part : PartOf s c
  pub packs : Packs s
  pub solid_limit : solid ≤ largest_solid
  pub space_limit : s.space ≤ largest_space
