-- docs/RULES.md, "The sheet": how many words there are of each thing, and where in a slot they stand. These numbers
-- stand here and nowhere else in specs/; the program has them in src/layout.rt of this crate, C in include/gelumbrio.h.
--
--   length       of a thing: how many words it has
--   at           the word of a slot, counted from 0, with which a thing starts
--
-- Assumes nothing.
use Rattle.std.specs.Prelude.{ℕ}

-- "P slots of 2,824 words each, P from 1 to 64"
abbrev pub most_slots : ℕ
most_slots = 64

-- "256 records of 6 words", "256 places of 2 words", "256 lines of 3 words"; "head, 8 words"
abbrev pub most_records : ℕ
most_records = 256

abbrev pub head_length : ℕ
head_length = 8

abbrev pub record_length : ℕ
record_length = 6

abbrev pub place_length : ℕ
place_length = 2

abbrev pub line_length : ℕ
line_length = 3

-- the words of all records, of all places and of all lines
abbrev pub records_length : ℕ
records_length = 1536

abbrev pub places_length : ℕ
places_length = 512

abbrev pub lines_length : ℕ
lines_length = 768

-- and of a slot: its head and these
abbrev pub slot_length : ℕ
slot_length = 2824

-- the words of the head
abbrev pub clinic_at : ℕ
clinic_at = 0

abbrev pub measure_at : ℕ
measure_at = 1

abbrev pub indent_at : ℕ
indent_at = 2

abbrev pub record_count_at : ℕ
record_count_at = 3

abbrev pub line_count_at : ℕ
line_count_at = 4

abbrev pub in_use_at : ℕ
in_use_at = 5

-- and what follows it
abbrev pub records_at : ℕ
records_at = 8

abbrev pub places_at : ℕ
places_at = 1544

abbrev pub lines_at : ℕ
lines_at = 2056
