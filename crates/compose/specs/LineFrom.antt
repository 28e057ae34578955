-- The line from a record on, found from the metrics.
--
--   line due     a line starts with record i, at x
--   line from    the longest line from there: the record after it, where its units would end if they stood solid, and
--                what its gaps add up to
--   no line      no line fits
--   broken to    the lines of a paragraph
--
-- Assumes nothing.
use Rattle.std.specs.Prelude.{◌≡◌, ℕ, ◌+◌, ◌≤◌, ◌<◌, List, ◌∷◌, ◌++◌, None, Some}
use Rattle.rules.specs.Limits.{largest_measure}
use Rattle.rules.specs.Basics.{whole}
use Rattle.rules.specs.Groups.{units, counts}
use Rattle.rules.specs.Breaks.{width, runs, wide_run, no_breaking, breaking}
use Rattle.rules.specs.Adjustment.{gaps_of, unit_advances}
use Rattle.rules.specs.Gaps.{Gap}
use Rattle.rules.specs.Packed.{Packs, AtMost}
use Rattle.compose.specs.Limits.{most_gaps}
use Rattle.compose.specs.Paragraph.{record_count, paragraph, units_from}
use Rattle.compose.specs.Metrics.{MetricsFrom}
use Rattle.compose.specs.Lines.{line_at, Broken}
use Rattle.rules.specs.declared.measure.Measure.{Measure}
use Rattle.rules.specs.declared.refusal.Refusal.{Refusal}
use Rattle.rules.specs.declared.refusal.Refusal.TheVariants.{TooWide}
use Rattle.compose.specs.declared.breaking.LineSums.{LineSums}
use Rattle.compose.specs.declared.metrics.Metrics.{Metrics}

pub record LineDue (ws : List ℕ) (ms : Metrics) (i m x : ℕ) : Type 0 where
  pub inside : i < record_count ws
  pub metrics : MetricsFrom ws ms i
  pub measure : m ≤ largest_measure
  pub indent : x ≤ largest_measure

-- the line of the records from i up to j is the first of those that start with record i
pub record LineTaken (ws : List ℕ) (i j m x : ℕ) : Type 0 where
  pub some : i < j
  pub within : j ≤ record_count ws
  pub ends : i + counts (whole (line_at ws i j)) ≡ j
  pub joins_up : whole (line_at ws i j) ++ units_from ws j ≡ units_from ws i
  pub fits : x + width (line_at ws i j) ≤ m
  pub lines : breaking m x (runs (units_from ws i)) ≡ line_at ws i j ∷ breaking m 0 (runs (units_from ws j))
  pub wide : wide_run m x i (runs (units_from ws i)) ≡ wide_run m 0 j (runs (units_from ws j))

pub record SumsAre (ws : List ℕ) (i j x solid : ℕ) (gaps : Gap) : Type 0 where
  pub solid_is : solid ≡ x + unit_advances (whole (line_at ws i j))
  pub gaps_are : gaps ≡ gaps_of (line_at ws i j)
  pub gaps_limit : AtMost most_gaps gaps
  pub packs : Packs gaps
  pub solid_limit : solid ≤ largest_measure

pub record LineFrom (ws : List ℕ) (i m x : ℕ) (l : LineSums) : Type 0 where
  pub taken : LineTaken ws i l.end m x
  pub sums : SumsAre ws i l.end x l.solid l.gaps

abbrev pub NoLine : List ℕ → ℕ → ℕ → ℕ → Type 0
NoLine ws i m x = wide_run m x i (runs (units_from ws i)) ≡ Some i

-- from record i on no line fits
abbrev pub TooWideAt : List ℕ → ℕ → ℕ → ℕ → Type 0
TooWideAt ws m x i = no_breaking m x (units (paragraph ws)) ≡ Some i

-- the refusal that says so
abbrev pub IsTooWide : List ℕ → Measure → Refusal → Type 0
IsTooWide ws m e =
    (i : ℕ) × (e ≡ TooWide i) × TooWideAt ws m.measure m.indent i

pub record BrokenTo (ws : List ℕ) (m x : ℕ) (starts : List ℕ) (lines : ℕ) : Type 0 where
  pub fits : no_breaking m x (units (paragraph ws)) ≡ None
  pub broken : Broken ws m x starts lines
