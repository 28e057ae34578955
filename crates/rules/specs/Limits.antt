-- docs/RULES.md, "The sheet", "A record", "Groups and units" and, for ruby place, "Calls and answers": the least and
-- the most that a number of a record, of a group or of a slot may be. They stand here and nowhere else in specs/; the
-- program has them in src/limits.rt of this crate, C in include/gelumbrio.h.
--
-- Assumes nothing.
use Rattle.std.specs.Prelude.{ℕ}

-- "Limits: clinic 0 to 65,535 ..; measure 8 to 1,000,000"
abbrev pub highest_clinic : ℕ
highest_clinic = 65535

abbrev pub least_measure : ℕ
least_measure = 8

abbrev pub largest_measure : ℕ
largest_measure = 1000000

-- "Code point: at most 0x10FFFF"
abbrev pub highest_code : ℕ
highest_code = 0x10FFFF

-- "Size: a multiple of 8, from 8 to 4,000."
abbrev pub size_step : ℕ
size_step = 8

abbrev pub least_size : ℕ
least_size = 8

abbrev pub largest_size : ℕ
largest_size = 4000

-- "Group 1 to 65,535 has ruby count 1 to 64"
abbrev pub highest_group : ℕ
highest_group = 65535

abbrev pub most_ruby : ℕ
most_ruby = 64

-- "at most 16 records"
abbrev pub most_grouped : ℕ
most_grouped = 16

-- of ruby place: "the base advance is 0 or over 64,000"
abbrev pub largest_base : ℕ
largest_base = 64000

-- what a unit's advance comes to at most: its ruby to 64 characters of half of 4,000, its base to 16 records of twice
-- 4,000, which is as much
abbrev pub largest_advance : ℕ
largest_advance = 128000
