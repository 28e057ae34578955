-- The loop of `compose::breaking::Scanned::break_lines`: invariant and measure. Assumes nothing.
use Rattle.std.proofs.Common.{◌-◌}
use Rattle.compose.proofs.BreakLines.{Due}
use Rattle.compose.proofs.breaking.Scanned.break_lines.Given as goal

abbrev pub invariant-loop-start : goal.invariant-loop-start
invariant-loop-start l =
    Due l.self.paragraph.words.now l.self.metrics.now l.start.first l.start.number l.measure.measure
    l.measure.indent l.start.x l.starts

abbrev pub decreases-loop-start : goal.decreases-loop-start
decreases-loop-start l = l.n - l.start.first
