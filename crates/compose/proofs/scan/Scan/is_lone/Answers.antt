-- `compose::scan::Scan::is_lone` meets its contract. Assumes nothing.
use Rattle.std.proofs.Common.{sym, ◌∙◌}
use Rattle.rules.specs.Listed.{is_listed}
use Rattle.compose.proofs.scan.Scan.is_lone.Goals as goal

pub plain_ok-requires-clause-listed : goal.plain_ok-requires-clause-listed
unfolding is_listed
plain_ok-requires-clause-listed c = sym c.in_list.ensures ∙ c.if-in_list.true

pub returns-then-in_list : goal.returns-then-in_list
unfolding is_listed
returns-then-in_list c = λ z.
    record {
      fine =
          record {
            sound = sym c.plain_ok.ensures ∙ z;
            listed = sym c.in_list.ensures ∙ c.if-in_list.true;
          };
      group = c.if-r-eq0.true;
    }
