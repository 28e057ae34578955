-- The loop of `compose::breaking::Scanned::place_line`: its invariant. Assumes nothing.
use Rattle.compose.proofs.PlaceLine.{MetricsToPlace}
use Rattle.compose.proofs.breaking.Scanned.place_line.Given as goal

abbrev pub invariant-loop-k : goal.invariant-loop-k
invariant-loop-k l =
    MetricsToPlace l.self.paragraph.words.now l.self.metrics.now l.start.first l.end l.k l.start.number l.start.x
    l.adjustment l.solid l.sums l.initial.places l.places
