-- The loop of `compose::scan::Scan::unit_before`: invariant and measure. Assumes nothing.
use Rattle.compose.proofs.UnitBefore.{UnitWalk}
use Rattle.compose.proofs.scan.Scan.unit_before.Given as goal

abbrev pub invariant-loop-r : goal.invariant-loop-r
invariant-loop-r l = UnitWalk l.self.paragraph.words.now l.first l.i l.base

abbrev pub decreases-loop-r : goal.decreases-loop-r
decreases-loop-r l = l.first
