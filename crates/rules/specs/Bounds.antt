-- What functions ask of the numbers that they are told, so that their sums and products fit 32 bits.
-- Assumes nothing.
use Rattle.std.specs.Prelude.{◌≡◌, ℕ, ◌≤◌, ◌<◌, true}
use Rattle.rules.specs.Limits.{largest_size, most_ruby, most_grouped, largest_advance}
use Rattle.rules.specs.Records.{class_ok, size_ok}
use Rattle.rules.specs.Sides.{Side}

-- the class is one of the eighteen, and the size within its limits
pub record SideOk (L : Side) : Type 0 where
  pub class : class_ok L.class ≡ true
  pub size : size_ok L.size ≡ true

pub record ShiftBounds (d n k : ℕ) : Type 0 where
  pub difference : d ≤ largest_advance
  pub items : n ≤ most_ruby
  pub item : k < n

pub record OffsetBounds (ruby s n k solid : ℕ) : Type 0 where
  pub characters : ruby ≤ most_ruby
  pub size : s ≤ largest_size
  pub items : n ≤ most_grouped
  pub item : k < n
  pub offset : solid ≤ largest_advance
