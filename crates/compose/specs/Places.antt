-- The words that a line leaves: of its records' places, and its own three.
--
--   to place       a line of known amounts, whose places are to be written
--   to compose     a line that fits the measure, with room for its words
--   composed       the words of a line, or of all lines, are written
--
-- Assumes nothing.
use Rattle.std.specs.Prelude.{◌≡◌, ℕ, ◌+◌, ◌*◌, ◌-◌, ◌≤◌, ◌<◌, List, [], ◌∷◌, ◌++◌, eqb, length, None}
use Rattle.std.proofs.Math.Seq.{paste}
use Rattle.rules.specs.Layout.{most_records, place_length, line_length}
use Rattle.rules.specs.Limits.{largest_measure}
use Rattle.rules.specs.Basics.{whole}
use Rattle.rules.specs.Groups.{units, counts}
use Rattle.rules.specs.Structs.{gap_from}
use Rattle.rules.specs.Breaks.{no_breaking}
use Rattle.rules.specs.Adjustment.{Line, gaps_of, placed, line_of}
use Rattle.rules.specs.Gaps.{no_gaps}
use Rattle.rules.specs.Sheet.{places_of}
use Rattle.compose.specs.Paragraph.{record_count, paragraph, units_from}
use Rattle.compose.specs.Metrics.{MetricsFrom}
use Rattle.compose.specs.Lines.{line_at, composed, Written}
use Rattle.compose.specs.LineFrom.{LineTaken, SumsAre}
use Rattle.compose.specs.Rates.{amounts_from}
use Rattle.compose.specs.declared.adjustment.Adjustment.{Adjustment}
use Rattle.compose.specs.declared.breaking.LineSums.{LineSums}
use Rattle.compose.specs.declared.metrics.Metrics.{Metrics}

-- the line of the records from i up to j, which starts at x: with its records' metrics, and its adjustment
pub record LineToPlace (ws : List ℕ) (ms : Metrics) (i j x : ℕ) (a : Adjustment) (places : List ℕ) : Type 0 where
  pub within : j ≤ record_count ws
  pub ends : i + counts (whole (line_at ws i j)) ≡ j
  pub joins_up : whole (line_at ws i j) ++ units_from ws j ≡ units_from ws i
  pub metrics : MetricsFrom ws ms i
  pub gaps : gap_from a.capacities ≡ gaps_of (line_at ws i j)
  pub start : x ≤ largest_measure
  pub room : place_length * record_count ws ≤ length places

-- the places of its records, where it is line k
abbrev pub line_places : List ℕ → ℕ → ℕ → ℕ → ℕ → Adjustment → List ℕ
line_places ws i j k x a =
    let l = line_at ws i j in
    places_of k (placed (amounts_from a.amounts) (gap_from a.capacities) no_gaps x l.first l.rest)

-- a line that fits the measure m from x on, line k of the paragraph
pub record LineToCompose (ws : List ℕ) (ms : Metrics) (i k m x : ℕ) (l : LineSums) (places lines : List ℕ)
    : Type 0 where
  pub metrics : MetricsFrom ws ms i
  pub taken : LineTaken ws i l.end m x
  pub sums : SumsAre ws i l.end x l.solid l.gaps
  pub measure : m ≤ largest_measure
  pub place_room : place_length * record_count ws ≤ length places
  pub line_room : line_length * k + line_length ≤ length lines
  pub few_lines : k < most_records

-- the words of a line that starts with record i
abbrev pub words_of : ℕ → Line → List ℕ
words_of i l = i ∷ l.end ∷ l.kind ∷ []

-- a paragraph's last line ends with its last record
abbrev pub line_between : List ℕ → ℕ → ℕ → ℕ → ℕ → Line
line_between ws i j m x = line_of m x (eqb j (record_count ws)) (line_at ws i j)

-- its places and its three words are written
pub record LineComposed (ws : List ℕ) (i j k m x : ℕ) (places₀ lines₀ places lines : List ℕ) : Type 0 where
  pub places_written :
      places ≡
      paste places₀ (place_length * i) (places_of k (line_between ws i j m x).xs) (place_length * (j - i))
  pub lines_written : lines ≡
      paste lines₀ (line_length * k) (words_of i (line_between ws i j m x)) line_length

-- its lines composed
pub record ComposedTo (ws : List ℕ) (m x : ℕ) (places₀ lines₀ places lines : List ℕ) (lines_count : ℕ) : Type 0 where
  pub fits : no_breaking m x (units (paragraph ws)) ≡ None
  pub count : lines_count ≡ length (composed ws m x)
  pub written : Written ws m x places₀ lines₀ places lines lines_count
