-- `compose::paragraph::Paragraph::joint_after` meets its contract. Assumes nothing.
use Rattle.std.proofs.Common.{arith, rules}
use Rattle.compose.proofs.GapSums.{nothing_yet}
use Rattle.compose.proofs.JointAfter.{joint_none, joint_found}
use Rattle.compose.proofs.paragraph.Paragraph.joint_after.Goals as goal

pub returns-then-i-len : goal.returns-then-i-len
returns-then-i-len c = search (rules, joint_found)

pub returns-else-i-len : goal.returns-else-i-len
returns-else-i-len c = rw nothing_yet (joint_none c.args.self.words.now c.args.first c.args.i (omega arith))
