-- `compose::breaking::Scanned::compose_lines` meets its contract: at each turn the words written, with those of the
-- lines to come, are all of them. Assumes nothing.
use Rattle.std.proofs.Common.{arith}
use Rattle.compose.proofs.LinesLeft.{to_break}
use Rattle.compose.proofs.ComposeLines.{to_compose, lines_start, lines_more, lines_done}
use Rattle.compose.proofs.breaking.Scanned.compose_lines.Goals as goal

pub loop-start-init : goal.loop-start-init
loop-start-init c =
    rw c.of_paragraph-start.ensures
    (lines_start (to_compose (to_break c.args.self c.args.measure) (omega arith, omega arith)))

pub loop-start-preserved : goal.loop-start-preserved
loop-start-preserved c =
    rw c.next-start.ensures
    (lines_more (to_compose (to_break c.args.self c.args.measure) (omega arith, omega arith))
    c.loop-start.invariant c.in-Some.ensures.line c.compose_line.ensures)

pub returns-clause-composed : goal.returns-clause-composed
returns-clause-composed c =
    lines_done (to_compose (to_break c.args.self c.args.measure) (omega arith, omega arith))
    c.loop-start.invariant (omega arith)
