-- docs/RULES.md, "Where the characters of a group stand": both rows end together, as cases worked by hand: one table,
-- with one claim over all rows that the checker computes. What a row wants is told in WorkedCases.antt. Assumes
-- nothing.
use Rattle.std.proofs.Common.{◌≡◌, refl, ℕ, true, List, [], ◌∷◌}
use Rattle.rules.specs.Records.{Rec}
use Rattle.rules.proofs.WorkedCases.{sized, K, Row, row, right, worked}

-- a kanji of group 1, which has n ruby characters of 40
abbrev under : ℕ → Rec
under n = sized 0x4E00 19 80 1 n

-- one of group 2, with 3
abbrev other : Rec
other = sized 0x4E00 19 80 2 3

pub group_rows : List Row
group_rows =
    -- the ruby row is shorter: D is 80 of 2; 80 of 4, in thirds; 120 and 40 of 1
    row 400 (under 2 ∷ under 2 ∷ []) (0 ∷ 1 ∷ 0 ∷ 0 ∷ 80 ∷ 0 ∷ 0 ∷ 160 ∷ 3 ∷ 0 ∷ 120 ∷ [])
    ∷ row 400 (under 4 ∷ under 4 ∷ under 4 ∷ [])
    (0 ∷ 1 ∷ 0 ∷ 0 ∷ 80 ∷ 0 ∷ 160 ∷ 0 ∷ 0 ∷ 240 ∷ 3 ∷ 0 ∷ 66 ∷ 133 ∷ 200 ∷ [])
    ∷ row 400 (under 1 ∷ under 1 ∷ []) (0 ∷ 1 ∷ 0 ∷ 0 ∷ 80 ∷ 0 ∷ 0 ∷ 160 ∷ 3 ∷ 60 ∷ [])
    ∷ row 400 (under 1 ∷ []) (0 ∷ 1 ∷ 0 ∷ 0 ∷ 0 ∷ 80 ∷ 3 ∷ 20 ∷ [])
    -- the base row is: D is 40 of 2; 40 of 3; 40 of 4, in thirds
    ∷ row 400 (under 5 ∷ under 5 ∷ [])
    (0 ∷ 1 ∷ 0 ∷ 0 ∷ 120 ∷ 0 ∷ 0 ∷ 200 ∷ 3 ∷ 0 ∷ 40 ∷ 80 ∷ 120 ∷ 160 ∷ [])
    ∷ row 400 (under 7 ∷ under 7 ∷ under 7 ∷ [])
    (0 ∷ 1 ∷ 0 ∷ 0 ∷ 100 ∷ 0 ∷ 200 ∷ 0 ∷ 0 ∷ 280 ∷ 3 ∷ 0 ∷ 40 ∷ 80 ∷ 120 ∷ 160 ∷ 200 ∷ 240 ∷ [])
    ∷ row 400 (under 9 ∷ under 9 ∷ under 9 ∷ under 9 ∷ [])
    (0 ∷ 1 ∷ 0 ∷ 0 ∷ 93 ∷ 0 ∷ 186 ∷ 0 ∷ 280 ∷ 0 ∷ 0 ∷ 360 ∷ 3
    ∷ 0 ∷ 40 ∷ 80 ∷ 120 ∷ 160 ∷ 200 ∷ 240 ∷ 280 ∷ 320 ∷ [])
    -- equal rows
    ∷ row 400 (under 2 ∷ []) (0 ∷ 1 ∷ 0 ∷ 0 ∷ 0 ∷ 80 ∷ 3 ∷ 0 ∷ 40 ∷ [])
    ∷ row 400 (under 4 ∷ under 4 ∷ [])
    (0 ∷ 1 ∷ 0 ∷ 0 ∷ 80 ∷ 0 ∷ 0 ∷ 160 ∷ 3 ∷ 0 ∷ 40 ∷ 80 ∷ 120 ∷ [])
    -- the longer row alone decides whether a group fits
    ∷ row 200 (under 5 ∷ under 5 ∷ [])
    (0 ∷ 1 ∷ 0 ∷ 0 ∷ 120 ∷ 0 ∷ 0 ∷ 200 ∷ 3 ∷ 0 ∷ 40 ∷ 80 ∷ 120 ∷ 160 ∷ [])
    ∷ row 199 (under 5 ∷ under 5 ∷ []) (10 ∷ 0 ∷ [])
    -- one group after another, and one in a line that is stretched by 20 on either side of it
    ∷ row 400 (under 5 ∷ under 5 ∷ other ∷ other ∷ [])
    (0 ∷ 1 ∷ 0 ∷ 0 ∷ 120 ∷ 0 ∷ 200 ∷ 0 ∷ 280 ∷ 0 ∷ 0 ∷ 360 ∷ 3
    ∷ 0 ∷ 40 ∷ 80 ∷ 120 ∷ 160 ∷ 0 ∷ 60 ∷ 120 ∷ [])
    ∷ row 400 (K ∷ under 5 ∷ under 5 ∷ K ∷ K ∷ [])
    (0 ∷ 2 ∷ 0 ∷ 0 ∷ 100 ∷ 0 ∷ 220 ∷ 0 ∷ 320 ∷ 0 ∷ 0 ∷ 1 ∷ 0 ∷ 400 ∷ 1 ∷ 4 ∷ 80 ∷ 3
    ∷ 0 ∷ 40 ∷ 80 ∷ 120 ∷ 160 ∷ [])
    ∷ []

-- every row comes out as it was worked by hand
pub group_rows_hold : right group_rows ≡ true
unfolding worked group_rows
group_rows_hold = refl
