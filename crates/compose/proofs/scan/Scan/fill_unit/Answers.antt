-- `compose::scan::Scan::fill_unit` meets its contract, by the laws of FillMetrics.antt. Assumes nothing.
use Rattle.compose.proofs.FillMetrics.{joint_due}
use Rattle.compose.proofs.scan.Scan.fill_unit.Goals as goal

pub joint_after-joint-requires : goal.joint_after-joint-requires
joint_after-joint-requires c = joint_due c.in_ok-unit.ensures.unit c.requires.0
