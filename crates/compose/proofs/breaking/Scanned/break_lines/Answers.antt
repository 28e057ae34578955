-- `compose::breaking::Scanned::break_lines` meets its contract: the lines written, and those of the records left, are
-- the paragraph's. Assumes nothing.
use Rattle.std.proofs.Common.{arith, rules}
use Rattle.compose.proofs.LinesLeft.{to_break}
use Rattle.compose.proofs.BreakLines.{due_start, due_more, due_end}
use Rattle.compose.proofs.breaking.Scanned.break_lines.Goals as goal

pub loop-start-preserved : goal.loop-start-preserved
loop-start-preserved c =
    rw c.next-start.ensures (due_more c.loop-start.invariant c.in-Some.ensures.line.taken)

pub loop-start-init : goal.loop-start-init
loop-start-init c =
    rw c.of_paragraph-start.ensures
    (due_start (to_break c.args.self c.args.measure) (omega arith))

pub returns-clause-broken : goal.returns-clause-broken
returns-clause-broken c = search (rules, due_end)
