-- The loop of `slot::redone::lines_redone`: invariant. Assumes nothing.
use Rattle.slot.proofs.RedoneReport.{Searching}
use Rattle.slot.proofs.redone.lines_redone.Given as goal

abbrev pub invariant-loop-j : goal.invariant-loop-j
invariant-loop-j l =
    Searching l.starts l.lines l.stretch l.f l.j l.k
