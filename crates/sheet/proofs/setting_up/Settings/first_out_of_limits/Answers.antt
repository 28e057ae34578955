-- `sheet::setting_up::Settings::first_out_of_limits` meets its contract. Assumes nothing.
use Rattle.std.proofs.Common.{sym, ◌∙◌}
use Rattle.sheet.proofs.SetUpLaws.{search_more, search_found, search_all}
use Rattle.sheet.proofs.setting_up.Settings.first_out_of_limits.Goals as goal

pub returns-then-not-slot_limits_ok-clause-first : goal.returns-then-not-slot_limits_ok-clause-first
returns-then-not-slot_limits_ok-clause-first c =
    search_found _ _ _ c.loop-k.invariant c.loop-k-test.true
    (sym c.slot_limits_ok.ensures ∙ c.if-not-slot_limits_ok.true)

pub loop-k-preserved : goal.loop-k-preserved
loop-k-preserved c =
    search_more _ _ _ c.loop-k.invariant c.loop-k-test.true
    (sym c.slot_limits_ok.ensures ∙ c.if-not-slot_limits_ok.false)

pub returns-clause-first : goal.returns-clause-first
returns-clause-first c = search_all _ _ _ c.loop-k.invariant c.loop-k-test.false
