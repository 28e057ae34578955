-- What is left of a paragraph from a record on, where a line starts: both loops over lines carry it. Its lines: none
-- after the last record; the first, and those after it. Assumes nothing.
use Rattle.std.proofs.Common.{◌≡◌, sym, ◌∙◌, ℕ, ◌≤◌, arith, List, [], ◌∷◌, None, inl, inr, eqb, eq-eqb, ne_eqb}
use Rattle.std.proofs.Math.Nat.{sub-zero}
use Rattle.rules.specs.Layout.{most_records}
use Rattle.rules.specs.Limits.{largest_measure}
use Rattle.rules.specs.Basics.{whole}
use Rattle.rules.specs.Groups.{units}
use Rattle.rules.specs.Breaks.{runs, wide_run, no_breaking, breaking}
use Rattle.rules.specs.Adjustment.{is_empty, line_of, lines_of, compose}
use Rattle.std.proofs.lemmas.Bool.{cases_lt}
use Rattle.rules.proofs.Breaking.{filled_first}
use Rattle.compose.specs.Paragraph.{record_count, paragraph, units_from}
use Rattle.compose.specs.Metrics.{MetricsFrom}
use Rattle.compose.specs.Lines.{line_at}
use Rattle.compose.specs.LineFrom.{LineTaken, NoLine, TooWideAt}
use Rattle.compose.proofs.HeldMetrics.{held_after}
use Rattle.compose.proofs.UnitsFrom.{runs_end, runs_some}
use Rattle.rules.specs.declared.measure.Measure.{Measure}
use Rattle.compose.specs.declared.metrics.Metrics.{Metrics}
use Rattle.compose.specs.declared.breaking.Scanned.{Scanned}

-- a paragraph's metrics, a measure and an indent within limits
pub record ToBreak (ws : List ℕ) (ms : Metrics) (m x : ℕ) : Type 0 where
  pub few : record_count ws ≤ most_records
  pub metrics : MetricsFrom ws ms 0
  pub measure : m ≤ largest_measure
  pub indent : x ≤ largest_measure

pub to_break : (s : Scanned) (m : Measure) → ToBreak s.paragraph.words.now s.metrics.now m.measure m.indent
to_break s m =
    record { few = s.paragraph.few; metrics = s.filled; measure = m.within.0; indent = m.within.1 }

-- the paragraph's units are those from its first record on
pub from_start : (ws : List ℕ) → units_from ws 0 ≡ units (paragraph ws)
unfolding units_from
from_start ws = rw sub-zero

-- what is left from record i on, where a line starts at `start`: its metrics, and the place of answer 10
pub record Left (ws : List ℕ) (ms : Metrics) (i m x start : ℕ) : Type 0 where
  pub few : record_count ws ≤ most_records
  pub within : i ≤ record_count ws
  pub metrics : MetricsFrom ws ms i
  pub measure : m ≤ largest_measure
  pub indent : start ≤ largest_measure
  pub wide : wide_run m start i (runs (units_from ws i)) ≡ no_breaking m x (units (paragraph ws))

module _ {ws : List ℕ} {ms : Metrics} {m x : ℕ} where
  pub left_start : ToBreak ws ms m x → Left ws ms 0 m x x
  unfolding no_breaking
  left_start p = search (from_start, arith)

  module _ {i start : ℕ} (q : Left ws ms i m x start) where
    -- nothing is left, and every run fits
    pub left_none : record_count ws ≤ i → no_breaking m x (units (paragraph ws)) ≡ None
    unfolding wide_run
    left_none h = sym q.wide ∙ rw (runs_end ws i h)

    -- no line fits
    pub left_stop : NoLine ws i m start → TooWideAt ws m x i
    left_stop e = cc

    -- one line is taken
    pub left_more : {j : ℕ} → LineTaken ws i j m start → Left ws ms j m x 0
    left_more {j} t =
        let metrics : MetricsFrom ws ms j =
        rw t.ends at (held_after (whole (line_at ws i j)) (units_from ws j) (rw (← t.joins_up) at q.metrics)) in
        let wide : wide_run m 0 j (runs (units_from ws j)) ≡ no_breaking m x (units (paragraph ws)) = cc in
        search arith

-- the lines that are left ------------------------------------------------------------------------------------------

pub lines_end : (ws : List ℕ) (m start i : ℕ) → record_count ws ≤ i → compose m start (units_from ws i) ≡ []
unfolding compose lines_of breaking
lines_end ws m start i h = rw (runs_end ws i h)

-- no line stands after record j just where no record does
last_is : (ws : List ℕ) (m j : ℕ) → j ≤ record_count ws →
    is_empty (breaking m 0 (runs (units_from ws j))) ≡ eqb j (record_count ws)
unfolding breaking
last_is ws m j h =
    elim (cases_lt j (record_count ws)) [
      | inl g ↦ rw (ne_eqb j (record_count ws) (λ e. omega arith), (runs_some ws j g).2, (filled_first m 0 _ _).2)
      | inr g ↦ rw (eq-eqb j (record_count ws) (omega arith), runs_end ws j g)
    ]

pub lines_first : {ws : List ℕ} {m start i j : ℕ} → LineTaken ws i j m start →
    compose m start (units_from ws i)
    ≡ line_of m start (eqb j (record_count ws)) (line_at ws i j) ∷ compose m 0 (units_from ws j)
unfolding compose lines_of
lines_first {ws} {m} {start} {i} {j} t = rw (t.lines, last_is ws m j t.within)
