-- `sheet::setting_up::Settings::write` meets its contract. Assumes nothing.
use Rattle.sheet.proofs.FreshSlots.{written_none, written_more, written_all}
use Rattle.sheet.proofs.setting_up.Settings.write.Goals as goal

pub loop-k-init : goal.loop-k-init
loop-k-init c = written_none _ _ _ _ c.clear.ensures c.requires

pub loop-k-preserved : goal.loop-k-preserved
loop-k-preserved c = written_more _ _ _ c.loop-k.invariant c.loop-k-test.true c.put.ensures

pub returns : goal.returns
returns c = written_all _ _ _ c.loop-k.invariant c.loop-k-test.false
