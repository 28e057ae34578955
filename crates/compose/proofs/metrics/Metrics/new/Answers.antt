-- `compose::metrics::Metrics::new` meets its contract. Assumes nothing.
use Rattle.compose.proofs.GapSums.{nothing_yet}
use Rattle.compose.proofs.metrics.Metrics.new.Goals as goal

pub returns-clause-gaps : goal.returns-clause-gaps
returns-clause-gaps c = rw nothing_yet
