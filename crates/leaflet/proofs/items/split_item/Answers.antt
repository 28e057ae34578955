-- `leaflet::items::split_item` meets its contract. Assumes nothing.
use Rattle.std.proofs.Common.{rules, arith}
use Rattle.std.proofs.lemmas.Grind.{common_steps}
use Rattle.leaflet.specs.Decoding.{next}
use Rattle.leaflet.proofs.FaultSteps.{left_shorter}
use Rattle.leaflet.proofs.items.split_item.Goals as goal

pub returns-in-60-clause-shorter : goal.returns-in-60-clause-shorter
unfolding next
returns-in-60-clause-shorter c = left_shorter _ _ (search rules)

pub returns-in-len1-up-clause-shorter : goal.returns-in-len1-up-clause-shorter
unfolding next
returns-in-len1-up-clause-shorter c = left_shorter _ _ (grind (arith, common_steps))
