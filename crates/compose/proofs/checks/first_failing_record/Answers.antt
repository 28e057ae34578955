-- `compose::checks::first_failing_record` meets its contract: the records passed pass the test. Assumes nothing.
use Rattle.std.proofs.Common.{arith}
use Rattle.compose.proofs.Faults.{passed_more, passed_not, passed_end}
use Rattle.compose.proofs.checks.first_failing_record.Goals as goal

pub returns-then-not-holds : goal.returns-then-not-holds
returns-then-not-holds g c =
    passed_not c.loop-i.invariant (omega arith) c.record_at.ensures c.holds.ensures c.if-not-holds.true

pub loop-i-preserved : goal.loop-i-preserved
loop-i-preserved g c =
    passed_more c.loop-i.invariant (omega arith) c.record_at.ensures c.holds.ensures c.if-not-holds.false

pub returns : goal.returns
returns g c = passed_end (omega arith) c.loop-i.invariant
