-- The loop of `compose::checks::first_failing_record`: its invariant. Assumes nothing.
use Rattle.compose.proofs.Faults.{Passed}
use Rattle.compose.proofs.checks.first_failing_record.Given as goal

abbrev pub invariant-loop-i : goal.invariant-loop-i
invariant-loop-i g l = Passed (g.T.Test.passes l.test) l.paragraph.words.now l.i
