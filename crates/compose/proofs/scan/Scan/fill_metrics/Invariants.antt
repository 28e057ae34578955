-- The loop of `compose::scan::Scan::fill_metrics`: invariant and measure. Assumes nothing.
use Rattle.compose.specs.Scan.{Filled}
use Rattle.compose.proofs.scan.Scan.fill_metrics.Given as goal

abbrev pub invariant-loop-i : goal.invariant-loop-i
invariant-loop-i l = Filled l.self.paragraph.words.now l.self.known l.fn.kept l.initial.metrics l.metrics l.i

abbrev pub decreases-loop-i : goal.decreases-loop-i
decreases-loop-i l = l.i
