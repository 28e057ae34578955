-- The loop of `sheet::setting_up::Settings::write`: invariant. Assumes nothing.
use Rattle.sheet.proofs.FreshSlots.{Written}
use Rattle.sheet.proofs.setting_up.Settings.write.Given as goal

abbrev pub invariant-loop-k : goal.invariant-loop-k
invariant-loop-k l =
    Written l.self.clinics.now l.self.measures.now l.self.indents.now l.sheet l.k
