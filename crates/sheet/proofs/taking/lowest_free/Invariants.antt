-- The loop of `sheet::taking::lowest_free`: invariant. Assumes nothing.
use Rattle.sheet.proofs.TakeLaws.{Looked}
use Rattle.sheet.proofs.taking.lowest_free.Given as goal

abbrev pub invariant-loop-k : goal.invariant-loop-k
invariant-loop-k l =
    Looked l.sheet l.caller.0 l.slots l.k
