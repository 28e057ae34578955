-- The loop of `compose::checks::first_group_fault`: its invariant. Assumes nothing.
use Rattle.compose.proofs.Faults.{Grouped}
use Rattle.compose.proofs.checks.first_group_fault.Given as goal

abbrev pub invariant-loop-i : goal.invariant-loop-i
invariant-loop-i l =
    Grouped l.paragraph.words.now l.i l.count
