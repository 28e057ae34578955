-- docs/RULES.md, "Which characters a class has": classes checked against the published lists, as cases worked by hand:
-- one table, with one claim over all rows that the checker computes. What a row wants is told in WorkedCases.antt.
-- Assumes nothing.
--
--   of class     a record by class and code point, as wide as its size
--   of a group   a kanji of a group with a ruby count
use Rattle.std.proofs.Common.{◌≡◌, refl, ℕ, true, List, [], ◌∷◌}
use Rattle.rules.specs.Records.{Rec}
use Rattle.rules.proofs.WorkedCases.{sized, K, Row, row, right, worked}

abbrev of_class : ℕ → ℕ → Rec
of_class c k = sized k c 80 0 0

abbrev of_group : ℕ → Rec
of_group n = sized 0x4E00 19 80 1 n

-- the comma that a clinic's tool marked as class 19
abbrev marked : Rec
marked = of_class 19 0x3001

-- a comma as wide as its size, under 8
abbrev wide : Rec
wide = of_class 7 0x3001

-- one record alone in a measure of its size: it stands in the list of its class, or 12 is due
abbrev is_listed : Rec → Row
is_listed r = row 80 (r ∷ []) (0 ∷ 1 ∷ 0 ∷ 0 ∷ 0 ∷ 80 ∷ 3 ∷ [])

abbrev is_not : Rec → Row
is_not r = row 80 (r ∷ []) (12 ∷ 0 ∷ [])

pub listings : List Row
listings =
    -- the clinic's comma: it would have opened line 1
    row 160 (K ∷ K ∷ marked ∷ K ∷ []) (12 ∷ 2 ∷ [])
    -- the first of two
    ∷ row 160 (K ∷ marked ∷ K ∷ marked ∷ []) (12 ∷ 1 ∷ [])
    -- after 8, wherever it stands; before 9, and before 10
    ∷ row 160 (marked ∷ K ∷ wide ∷ []) (8 ∷ 2 ∷ [])
    ∷ row 400 (of_group 2 ∷ of_group 3 ∷ K ∷ marked ∷ []) (12 ∷ 3 ∷ [])
    ∷ row 79 (K ∷ marked ∷ []) (12 ∷ 1 ∷ [])
    -- a code point of several lists; the question is whether this class's list has it
    ∷ is_listed (of_class 19 0x41)
    ∷ is_listed (of_class 27 0x41)
    ∷ is_not (of_class 15 0x41)
    ∷ is_listed (of_class 13 0x25)
    ∷ is_listed (of_class 27 0x25)
    ∷ is_not (of_class 19 0x25)
    -- ideographs are class 19 alone: the first and last of a block, and their neighbours
    ∷ is_listed (of_class 19 0x4E00)
    ∷ is_not (of_class 27 0x4E00)
    ∷ is_listed (of_class 19 0x9FFF)
    ∷ is_not (of_class 19 0xA000)
    ∷ is_not (of_class 19 0xFA10)
    ∷ is_listed (of_class 19 0xFA11)
    ∷ is_listed (of_class 19 0x2EE5D)
    ∷ is_not (of_class 19 0x2EE5E)
    ∷ is_listed (of_class 19 0x323AF)
    ∷ is_not (of_class 19 0x323B0)
    -- 216B, which the source has twice; 2015, which a remark alone names; a full-width form, which no list has
    ∷ is_listed (of_class 19 0x216B)
    ∷ is_listed (of_class 8 0x2014)
    ∷ is_not (of_class 8 0x2015)
    ∷ is_not (of_class 27 0xFF21)
    ∷ []

-- every row comes out as docs/RULES.md, "Which characters a class has", asks
pub listings_hold : right listings ≡ true
unfolding worked listings
listings_hold = refl
