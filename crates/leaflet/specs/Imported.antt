-- The records of a reading, whose words an import hands to edit: "How a leaflet is read" in docs/RULES.md. Nothing here
-- speaks of a reader.
--
--   as word      a count as a word of 32 bits. What is beyond them stands as the largest word
--   advance      the one that the rule of its class has, where that leaves no choice, and in classes 3 and 27 half the
--                size
--   records      "Each ruby element .. becomes one group, numbered from 1 in order; of the rt only its character count
--                is kept."
--
-- Assumes nothing.
use Rattle.std.specs.Prelude.{ℕ, suc, ◌/◌, cond, List, [], ◌∷◌, ◌++◌, map, ltb}
use Rattle.lists.specs.Lists.{class_of}
use Rattle.rules.specs.Basics.{whole}
use Rattle.rules.specs.Records.{Rec, rec_of, AdvanceKind, half_size, to_size, to_twice, full_size, advance_kind}
use Rattle.leaflet.specs.Contents.{Part, character, annotated}

-- how many values a word has, and the largest
abbrev pub word_values : ℕ
word_values = 4294967296

abbrev pub most_word : ℕ
most_word = 4294967295

unfoldable pub as_word : ℕ → ℕ
as_word n = cond (ltb n word_values) n most_word

-- class 3 is the one of advances up to the size, 27 of those up to twice the size
abbrev pub advance_by : AdvanceKind → ℕ → ℕ
advance_by half_size s = s / 2
advance_by to_size s = s / 2
advance_by to_twice s = s / 2
advance_by full_size s = s

unfoldable pub advance_of : ℕ → ℕ → ℕ
advance_of c s = advance_by (advance_kind c) s

-- "A character's class is 27 if that list has it, else the lowest-numbered list's", `class_of` of crate `lists`: the
-- record of a character of size s in group g, under n ruby characters
abbrev pub record_of : ℕ → ℕ → ℕ → ℕ → Rec
record_of s g n c = rec_of c (class_of c) s (advance_of (class_of c) s) g n

-- after k groups
unfoldable pub records_after : ℕ → ℕ → List Part → List Rec
records_after s k [] = []
records_after s k (character c ∷ ps) = record_of s 0 0 c ∷ records_after s k ps
records_after s k (annotated b n ∷ ps) =
    map (record_of s (as_word (suc k)) (as_word n)) (whole b) ++ records_after s (suc k) ps

abbrev pub imported_records : ℕ → List Part → List Rec
imported_records s ps = records_after s 0 ps
