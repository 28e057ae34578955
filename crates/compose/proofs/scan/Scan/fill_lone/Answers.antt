-- `compose::scan::Scan::fill_lone` meets its contract, by the laws of FillMetrics.antt. Assumes nothing.
use Rattle.std.proofs.Common.{arith, rules}
use Rattle.rules.proofs.RecordLimits.{record_bounds}
use Rattle.compose.proofs.PutMetrics.{Rooms}
use Rattle.compose.proofs.FillMetrics.{lone_due, lone_filled}
use Rattle.compose.proofs.scan.Scan.fill_lone.Goals as goal

pub joint_after-joint-requires : goal.joint_after-joint-requires
joint_after-joint-requires c = lone_due (c.is_lone.ensures c.if-not-is_lone.false) c.requires c.record_at-r.ensures

pub put-requires-clause-small : goal.put-requires-clause-small
put-requires-clause-small c = omega (arith, record_bounds _ (c.is_lone.ensures c.if-not-is_lone.false).fine.sound)

pub returns-clause-filled : goal.returns-clause-filled
returns-clause-filled c =
    let rooms : Rooms c.args.metrics.now = search rules in
    let lone = c.is_lone.ensures c.if-not-is_lone.false in
    λ z. lone_filled lone c.requires c.record_at-r.ensures rooms c.joint_after-joint.ensures c.put.ensures
