-- The loop of `compose::breaking::Scanned::compose_lines`: invariant and measure. Assumes nothing.
use Rattle.std.proofs.Common.{◌-◌}
use Rattle.compose.specs.Paragraph.{record_count}
use Rattle.compose.proofs.ComposeLines.{LinesToCome}
use Rattle.compose.proofs.breaking.Scanned.compose_lines.Given as goal

abbrev pub invariant-loop-start : goal.invariant-loop-start
invariant-loop-start l =
    LinesToCome l.self.paragraph.words.now l.self.metrics.now l.start.first l.start.number l.measure.measure
    l.measure.indent l.start.x l.initial.composition.places l.initial.composition.lines
    l.composition.places l.composition.lines

abbrev pub decreases-loop-start : goal.decreases-loop-start
decreases-loop-start l = record_count l.self.paragraph.words.now - l.start.first
