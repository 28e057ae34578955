-- What the numbers of a paragraph of at most 256 records come to, or more than that. These limits keep every sum within
-- 32 bits, and a rate times a capacity within 64. They stand here and nowhere else in this crate.
--
-- Assumes nothing.
use Rattle.std.specs.Prelude.{ℕ, ◌*◌}
use Rattle.rules.specs.Layout.{most_records}
use Rattle.rules.specs.Limits.{largest_size, largest_advance}

-- a record's own advance, and where it stands in its unit's base row
abbrev pub largest_own_advance : ℕ
largest_own_advance = 2 * largest_size

abbrev pub largest_offset : ℕ
largest_offset = 2 * largest_advance

-- the gaps of a line
abbrev pub most_gaps : ℕ
most_gaps = 255

-- where the units of a line end, if they stand solid; what the spaces of its gaps add up to; and where a unit stands
abbrev pub largest_solid : ℕ
largest_solid = 40000000

abbrev pub largest_space : ℕ
largest_space = most_records * largest_size

abbrev pub largest_place : ℕ
largest_place = 100000000

-- the amount of a stage, and the capacities of a stage added up: below 2^20, and 2^20
abbrev pub largest_amount : ℕ
largest_amount = 1048575

abbrev pub largest_capacity : ℕ
largest_capacity = 1048576

-- the parts that a rate is counted in: 2^43
abbrev pub parts : ℕ
parts = 8796093022208
