-- "Which units a line takes": breaks between units, the smallest width, answer 10, and the breaking.
--
--   forbidden_between  two units between which a break, 分割, is forbidden
--   run              here: the units between neighbouring permitted breaks
--   smallest width   a line's width with both shrink stages used in full
--   measure          字詰め方向の行長, how wide a line may be; indent, 字下げ, where line 0 starts
--
-- Assumes nothing.
use Rattle.std.specs.Prelude.{ℕ, ◌+◌, Bool, true, false, List, [], ◌∷◌, leb, Option, None, Some}
use Rattle.rules.specs.Basics.{Run, whole, extended, cut}
use Rattle.rules.specs.Sides.{forbidden}
use Rattle.rules.specs.Gaps.{Gap, gap_of, least}
use Rattle.rules.specs.Groups.{TextUnit, side, advance, counts}

abbrev pub forbidden_between : TextUnit → TextUnit → Bool
forbidden_between u v = forbidden (side u) (side v)

abbrev pub gap : TextUnit → TextUnit → Gap
gap u v = gap_of (side u) (side v)

-- "Smallest width uses both in full.": the least of every gap
unfoldable pub smallest : TextUnit → List TextUnit → ℕ
smallest u [] = advance u
smallest u (v ∷ us) = advance u + (least (gap u v) + smallest v us)

abbrev pub width : Run TextUnit → ℕ
width l = smallest l.first l.rest

-- the runs between neighbouring permitted breaks
unfoldable pub runs : List TextUnit → List (Run TextUnit)
runs us = cut forbidden_between us

-- answer 10: "first record of the first run between neighbouring permitted breaks whose smallest width, for the first
-- run with the indent, exceeds the measure". x is the indent for the first run and 0 later; i is the run's first
-- record
unfoldable pub wide_run : ℕ → ℕ → ℕ → List (Run TextUnit) → Option ℕ
wide_run m x i [] = None
wide_run m x i (l ∷ ls) =
    elim (leb (x + width l) m) [ true ↦ wide_run m 0 (i + counts (whole l)) ls | false ↦ Some i ]

unfoldable pub no_breaking : ℕ → ℕ → List TextUnit → Option ℕ
no_breaking m x us = wide_run m x 0 (runs us)

-- the lines of some runs: a line l, which starts at x, takes run after run as long as its smallest width is at most m
unfoldable pub filled : ℕ → ℕ → Run TextUnit → List (Run TextUnit) → List (Run TextUnit)
filled m x l [] = l ∷ []
filled m x l (k ∷ ks) =
    elim (leb (x + width (extended l k)) m) [ true ↦ filled m x (extended l k) ks | false ↦ l ∷ filled m 0 k ks ]

-- "Each line takes the longest run of units ending at a permitted break or the paragraph's end whose smallest width,
-- indent included, is at most the measure." That these are the longest is `lines_chosen` of proofs/Claims.antt
unfoldable pub breaking : ℕ → ℕ → List (Run TextUnit) → List (Run TextUnit)
breaking m x [] = []
breaking m x (l ∷ ls) = filled m x l ls
