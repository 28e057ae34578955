-- docs/RULES.md, "Where a line may be broken": five percent must stay together, as cases worked by hand: one table,
-- with one claim over all rows that the checker computes. What a row wants is told in WorkedCases.antt. Assumes
-- nothing.
--
--   letter       a record of class 27 by code point, half its size wide: a digit where it is U+0030 to U+0039
--   percent      %, of class 13
--   celsius      ℃, of class 13
use Rattle.std.proofs.Common.{◌≡◌, refl, ℕ, true, List, [], ◌∷◌}
use Rattle.rules.specs.Records.{Rec}
use Rattle.rules.proofs.WorkedCases.{sized, K, Row, row, right, worked}

abbrev letter : ℕ → Rec
letter c = sized c 27 40 0 0

abbrev percent : Rec
percent = sized 0x25 13 80 0 0

abbrev celsius : Rec
celsius = sized 0x2103 13 80 0 0

-- the third of five records is held by the % after it: both go to the next line
abbrev held : Rec → Row
held r =
    row 240 (K ∷ K ∷ r ∷ percent ∷ K ∷ [])
    (0 ∷ 2 ∷ 0 ∷ 0 ∷ 160 ∷ 0 ∷ 0 ∷ 1 ∷ 40 ∷ 1 ∷ 120 ∷ 1 ∷ 0 ∷ 240 ∷ 1 ∷ 2 ∷ 200 ∷ 3 ∷ [])

-- it is parted from it, and ends the first line
abbrev parted : Rec → Row
parted r =
    row 240 (K ∷ K ∷ r ∷ percent ∷ K ∷ [])
    (0 ∷ 2 ∷ 0 ∷ 0 ∷ 80 ∷ 0 ∷ 200 ∷ 0 ∷ 0 ∷ 1 ∷ 80 ∷ 1 ∷ 0 ∷ 240 ∷ 1 ∷ 3 ∷ 160 ∷ 3 ∷ [])

pub percents : List Row
percents =
    -- 5%, in a measure that parts a letter and its %
    held (letter 0x35)
    ∷ parted (letter 0x61)
    -- the digits from end to end, and their neighbours
    ∷ parted (letter 0x2F)
    ∷ held (letter 0x30)
    ∷ held (letter 0x39)
    ∷ parted (letter 0x3A)
    -- a digit of class 19, alone and as a group with one ruby character
    ∷ row 240 (K ∷ K ∷ sized 0x35 19 80 0 0 ∷ percent ∷ K ∷ [])
    (0 ∷ 2 ∷ 0 ∷ 0 ∷ 80 ∷ 0 ∷ 160 ∷ 0 ∷ 0 ∷ 1 ∷ 80 ∷ 1 ∷ 0 ∷ 240 ∷ 1 ∷ 3 ∷ 160 ∷ 3 ∷ [])
    ∷ row 240 (K ∷ K ∷ sized 0x35 19 80 1 1 ∷ percent ∷ K ∷ [])
    (0 ∷ 2 ∷ 0 ∷ 0 ∷ 80 ∷ 0 ∷ 160 ∷ 0 ∷ 0 ∷ 1 ∷ 80 ∷ 1 ∷ 0 ∷ 240 ∷ 1 ∷ 3 ∷ 160 ∷ 3 ∷ 20 ∷ [])
    -- 25℃
    ∷ row 400 (K ∷ K ∷ K ∷ letter 0x32 ∷ letter 0x35 ∷ celsius ∷ [])
    (0 ∷ 2 ∷ 0 ∷ 0 ∷ 160 ∷ 0 ∷ 320 ∷ 0 ∷ 0 ∷ 1 ∷ 40 ∷ 1 ∷ 80 ∷ 1 ∷ 0 ∷ 400 ∷ 1 ∷ 3 ∷ 160 ∷ 3 ∷ [])
    -- stretch stage 2 opens the gaps around 5%, and not the one inside
    ∷ row 350 (K ∷ letter 0x35 ∷ percent ∷ K ∷ K ∷ [])
    (0 ∷ 2 ∷ 0 ∷ 0 ∷ 135 ∷ 0 ∷ 175 ∷ 0 ∷ 270 ∷ 0 ∷ 0 ∷ 1 ∷ 0 ∷ 350 ∷ 1 ∷ 4 ∷ 80 ∷ 3 ∷ [])
    -- too wide together: 10, and the first digit's record
    ∷ row 119 (K ∷ letter 0x35 ∷ percent ∷ []) (10 ∷ 1 ∷ [])
    ∷ row 120 (K ∷ letter 0x35 ∷ percent ∷ [])
    (0 ∷ 2 ∷ 0 ∷ 0 ∷ 0 ∷ 1 ∷ 40 ∷ 1 ∷ 0 ∷ 80 ∷ 2 ∷ 1 ∷ 120 ∷ 3 ∷ [])
    ∷ row 159 (K ∷ letter 0x31 ∷ letter 0x30 ∷ percent ∷ []) (10 ∷ 1 ∷ [])
    ∷ []

-- every row comes out as it was worked
pub percents_hold : right percents ≡ true
unfolding worked percents
percents_hold = refl
