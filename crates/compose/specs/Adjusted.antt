-- The adjustment of a line as the program holds it.
--
--   due          the amounts of a line that ends at n and is to end at m
--   adjustable   a line that fits, or whose gaps can take what it is too long
--   adjusted     its adjustment
--
-- Assumes nothing.
use Rattle.std.specs.Prelude.{◌≡◌, ℕ, ◌+◌, ◌-◌, ◌^◌, ◌<◌, Bool, cond}
use Rattle.rules.specs.Gaps.{Gap}
use Rattle.rules.specs.Adjustment.{Amounts, amounts, kind_of}
use Rattle.rules.specs.Structs.{gap_from}
use Rattle.rules.specs.Numbers.{line_kind}
use Rattle.compose.specs.Rates.{amounts_from, RateBounds}
use Rattle.compose.specs.declared.adjustment.Adjustment.{Adjustment}

abbrev pub due : ℕ → ℕ → Gap → Bool → Amounts
due m n c last = amounts (n - m) (cond last 0 (m - n)) c

-- units that end at `solid`, where they stand solid, and gaps that add up to c
pub record Adjustable (m solid : ℕ) (c : Gap) (last : Bool) : Type 0 where
  pub fits : solid + c.space < 2 ^ 32
  pub bounds : RateBounds (due m (solid + c.space) c last) c

pub record Adjusted (m solid : ℕ) (c : Gap) (last : Bool) (a : Adjustment) : Type 0 where
  pub amounts_are : amounts_from a.amounts ≡ due m (solid + c.space) c last
  pub capacities_are : gap_from a.capacities ≡ c
  pub kind_is : line_kind a.kind ≡ kind_of last (amounts_from a.amounts) (gap_from a.capacities)
