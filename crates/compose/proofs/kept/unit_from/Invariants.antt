-- The loop of `compose::kept::unit_from`: its invariant. Assumes nothing.
use Rattle.compose.proofs.KeepMetrics.{InGroup}
use Rattle.compose.proofs.kept.unit_from.Given as goal

abbrev pub invariant-loop-i : goal.invariant-loop-i
invariant-loop-i l =
    InGroup l.paragraph.words.now l.a l.i
