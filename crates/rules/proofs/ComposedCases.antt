-- docs/RULES.md, "Composed by hand": the cases C1 to C13 as one table, with one claim over all rows that the checker
-- computes; and C3 with every word of its slot. What a row wants is told in WorkedCases.antt. Assumes nothing.
use Rattle.std.proofs.Common.{◌≡◌, refl, true, List, [], ◌∷◌, ◌++◌}
use Rattle.rules.specs.Basics.{zeros}
use Rattle.rules.specs.Records.{Rec, record_words}
use Rattle.rules.specs.Sheet.{setting, slot_words}
use Rattle.rules.specs.Computed.{computed}
use Rattle.rules.proofs.WorkedCases.{sized, K, Row, row, right, worked}

abbrev opening : Rec
opening = sized 0x300C 1 40 0 0

abbrev closing : Rec
closing = sized 0x300D 2 40 0 0

abbrev stop : Rec
stop = sized 0x3002 6 40 0 0

abbrev comma : Rec
comma = sized 0x3001 7 40 0 0

abbrev western : Rec
western = sized 0x61 27 40 0 0

abbrev ruby3 : Rec
ruby3 = sized 0x4E00 19 80 1 3

pub rows : List Row
rows =
    -- C1, C2
    row 400 [] (0 ∷ 0 ∷ [])
    ∷ row 400 (K ∷ K ∷ K ∷ K ∷ K ∷ [])
    (0 ∷ 1 ∷ 0 ∷ 0 ∷ 80 ∷ 0 ∷ 160 ∷ 0 ∷ 240 ∷ 0 ∷ 320 ∷ 0 ∷ 0 ∷ 400 ∷ 3 ∷ [])
    -- C3
    ∷ row 440 (K ∷ K ∷ K ∷ K ∷ K ∷ K ∷ [])
    (0 ∷ 2 ∷ 0 ∷ 0 ∷ 90 ∷ 0 ∷ 180 ∷ 0 ∷ 270 ∷ 0 ∷ 360 ∷ 0 ∷ 0 ∷ 1 ∷ 0 ∷ 440 ∷ 1 ∷ 5 ∷ 80 ∷ 3 ∷ [])
    -- C4
    ∷ row 400 (K ∷ K ∷ K ∷ K ∷ K ∷ stop ∷ K ∷ [])
    (0 ∷ 2 ∷ 0 ∷ 0 ∷ 106 ∷ 0 ∷ 213 ∷ 0 ∷ 320 ∷ 0 ∷ 0 ∷ 1 ∷ 80 ∷ 1 ∷ 160 ∷ 1
    ∷ 0 ∷ 400 ∷ 1 ∷ 4 ∷ 240 ∷ 3 ∷ [])
    -- C5, C6
    ∷ row 460 (K ∷ K ∷ comma ∷ K ∷ K ∷ K ∷ [])
    (0 ∷ 1 ∷ 0 ∷ 0 ∷ 80 ∷ 0 ∷ 160 ∷ 0 ∷ 220 ∷ 0 ∷ 300 ∷ 0 ∷ 380 ∷ 0 ∷ 0 ∷ 460 ∷ 3 ∷ [])
    ∷ row 459 (K ∷ K ∷ comma ∷ K ∷ K ∷ K ∷ [])
    (0 ∷ 2 ∷ 0 ∷ 0 ∷ 99 ∷ 0 ∷ 179 ∷ 0 ∷ 279 ∷ 0 ∷ 379 ∷ 0 ∷ 0 ∷ 1 ∷ 0 ∷ 459 ∷ 1 ∷ 5 ∷ 80 ∷ 3 ∷ [])
    -- C7, C8
    ∷ row 220 (K ∷ western ∷ K ∷ []) (0 ∷ 1 ∷ 0 ∷ 0 ∷ 90 ∷ 0 ∷ 140 ∷ 0 ∷ 0 ∷ 220 ∷ 3 ∷ [])
    ∷ row 219 (K ∷ western ∷ K ∷ []) (0 ∷ 2 ∷ 0 ∷ 0 ∷ 179 ∷ 0 ∷ 0 ∷ 1 ∷ 0 ∷ 219 ∷ 1 ∷ 2 ∷ 80 ∷ 3 ∷ [])
    -- C9
    ∷ row 100 (K ∷ K ∷ []) (0 ∷ 2 ∷ 0 ∷ 0 ∷ 0 ∷ 1 ∷ 0 ∷ 80 ∷ 2 ∷ 1 ∷ 80 ∷ 3 ∷ [])
    -- C10
    ∷ row 79 (K ∷ []) (10 ∷ 0 ∷ [])
    ∷ row 80 (K ∷ []) (0 ∷ 1 ∷ 0 ∷ 0 ∷ 0 ∷ 80 ∷ 3 ∷ [])
    -- C11
    ∷ row 159 (opening ∷ K ∷ closing ∷ []) (10 ∷ 0 ∷ [])
    ∷ row 160 (opening ∷ K ∷ closing ∷ []) (0 ∷ 1 ∷ 0 ∷ 0 ∷ 40 ∷ 0 ∷ 120 ∷ 0 ∷ 0 ∷ 160 ∷ 3 ∷ [])
    -- C12, C13
    ∷ row 400 (ruby3 ∷ ruby3 ∷ []) (0 ∷ 1 ∷ 0 ∷ 0 ∷ 80 ∷ 0 ∷ 0 ∷ 160 ∷ 3 ∷ 0 ∷ 60 ∷ 120 ∷ [])
    ∷ row 400 (ruby3 ∷ []) (0 ∷ 1 ∷ 20 ∷ 0 ∷ 0 ∷ 120 ∷ 3 ∷ 0 ∷ 40 ∷ 80 ∷ [])
    ∷ []

-- every row comes out as docs/RULES.md, "Composed by hand", has it
pub cases_hold : right rows ≡ true
unfolding worked rows
cases_hold = refl

-- C3 whole: the 2,824 words of the slot, of a clinic 7
pub c3_whole : slot_words (setting 7 440 0) (K ∷ K ∷ K ∷ K ∷ K ∷ K ∷ []) ≡
    (7 ∷ 440 ∷ 0 ∷ 6 ∷ 2 ∷ 0 ∷ 0 ∷ 0 ∷ [])
    ++ (record_words (K ∷ K ∷ K ∷ K ∷ K ∷ K ∷ []) ++ zeros 1500)
    ++ ((0 ∷ 0 ∷ 90 ∷ 0 ∷ 180 ∷ 0 ∷ 270 ∷ 0 ∷ 360 ∷ 0 ∷ 0 ∷ 1 ∷ []) ++ zeros 500)
    ++ ((0 ∷ 440 ∷ 1 ∷ 5 ∷ 80 ∷ 3 ∷ []) ++ zeros 762)
unfolding computed
c3_whole = refl
