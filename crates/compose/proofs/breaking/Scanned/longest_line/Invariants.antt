-- The search of `compose::breaking::Scanned::longest_line`: its invariant. Assumes nothing.
use Rattle.compose.proofs.LongestLine.{Search}
use Rattle.compose.proofs.breaking.Scanned.longest_line.Given as goal

abbrev pub invariant-search : goal.invariant-search
invariant-search l =
    Search l.self.paragraph.words.now l.self.metrics.now l.fn.start.first l.k l.measure l.fn.start.x l.line l.solid
    l.total
