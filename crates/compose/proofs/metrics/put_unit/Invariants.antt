-- The loop of `compose::metrics::put_unit`: its invariant. Assumes nothing.
use Rattle.compose.proofs.PutUnit.{UnitFilling}
use Rattle.compose.proofs.metrics.put_unit.Given as goal

abbrev pub invariant-loop-k : goal.invariant-loop-k
invariant-loop-k l =
    UnitFilling l.paragraph.words.now l.unit.first l.end l.k l.solid l.initial.metrics l.metrics
