-- The loop of `compose::scan::Scan::fill_lones`: its invariant. Assumes nothing.
use Rattle.std.proofs.Common.{◌≤◌}
use Rattle.compose.specs.Scan.{Filled}
use Rattle.compose.proofs.scan.Scan.fill_lones.Given as goal

abbrev pub invariant-loop-i : goal.invariant-loop-i
invariant-loop-i l =
    Filled l.self.paragraph.words.now l.self.known l.end l.initial.metrics l.metrics l.i × (l.stop ≤ l.i)
