-- `compose::composing::check_records` meets its contract. Assumes nothing.
use Rattle.compose.proofs.UnitBefore.{known_fine}
use Rattle.compose.proofs.composing.check_records.Goals as goal

pub invariant_of-scan : goal.invariant_of-scan
invariant_of-scan c = record { fine = known_fine c.requires.filled_from.scanning }
