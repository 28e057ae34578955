-- `compose::checks::is_fine` meets its contract. Assumes nothing.
use Rattle.std.proofs.Common.{sym, ◌∙◌}
use Rattle.rules.specs.Listed.{is_listed}
use Rattle.compose.proofs.checks.is_fine.Goals as goal

pub returns-then-record_ok : goal.returns-then-record_ok
unfolding is_listed
returns-then-record_ok c = (
  λ e. record { sound = sym c.record_ok.ensures ∙ c.if-record_ok.true; listed = sym c.in_list.ensures ∙ e },
  λ f. c.in_list.ensures ∙ f.listed,
)
