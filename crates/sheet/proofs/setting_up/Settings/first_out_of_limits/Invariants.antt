-- The loop of `sheet::setting_up::Settings::first_out_of_limits`: invariant. Assumes nothing.
use Rattle.sheet.proofs.SetUpLaws.{Searched}
use Rattle.sheet.proofs.setting_up.Settings.first_out_of_limits.Given as goal

abbrev pub invariant-loop-k : goal.invariant-loop-k
invariant-loop-k l =
    Searched l.self.clinics.now l.self.measures.now l.self.indents.now l.k
