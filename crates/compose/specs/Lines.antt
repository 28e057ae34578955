-- The lines as the program holds them: by the records between which they stand.
--
--   firsts       the first record of each line
--   line_at       the line of the records from i up to j
--
-- Assumes nothing.
use Rattle.std.specs.Prelude.{◌≡◌, ℕ, zero, suc, ◌+◌, ◌*◌, ◌-◌, List, [], ◌∷◌, length, take}
use Rattle.std.proofs.Math.Seq.{paste}
use Rattle.rules.specs.Layout.{place_length, line_length}
use Rattle.rules.specs.Basics.{Run, whole}
use Rattle.rules.specs.Groups.{TextUnit, units, count, counts}
use Rattle.rules.specs.Breaks.{runs, breaking}
use Rattle.rules.specs.Adjustment.{Line, compose}
use Rattle.rules.specs.Sheet.{place_words, line_words}
use Rattle.compose.specs.Paragraph.{record_count, paragraph, units_from, unit_at, next_at}

unfoldable pub firsts : ℕ → List (Run TextUnit) → List ℕ
firsts i [] = []
firsts i (l ∷ ls) = i ∷ firsts (i + counts (whole l)) ls

-- the units of a list up to k records
unfoldable pub up_to : ℕ → List TextUnit → List TextUnit
up_to k [] = []
up_to zero (u ∷ us) = []
up_to (suc k) (u ∷ us) = u ∷ up_to (suc k - count u) us

unfoldable pub line_at : List ℕ → ℕ → ℕ → Run TextUnit
line_at ws i j = record { first = unit_at ws i; rest = up_to (j - next_at ws i) (units_from ws (next_at ws i)) }

-- a paragraph's lines: by their units, and composed
abbrev pub broken : List ℕ → ℕ → ℕ → List (Run TextUnit)
broken ws m x = breaking m x (runs (units (paragraph ws)))

abbrev pub composed : List ℕ → ℕ → ℕ → List Line
composed ws m x = compose m x (units (paragraph ws))

-- what the breaking leaves: the number of lines, and the first record of each
pub record Broken (ws : List ℕ) (m x : ℕ) (starts : List ℕ) (lines : ℕ) : Type 0 where
  pub count : lines ≡ length (broken ws m x)
  pub first : take lines starts ≡ firsts 0 (broken ws m x)

-- the place words and line words of the composed lines, at the front of what stood there
pub record Written (ws : List ℕ) (m x : ℕ) (places₀ lines₀ places lines : List ℕ) (count : ℕ) : Type 0 where
  pub places_written : places ≡ paste places₀ 0 (place_words 0 (composed ws m x)) (place_length * record_count ws)
  pub lines_written : lines ≡ paste lines₀ 0 (line_words 0 (composed ws m x)) (line_length * count)
