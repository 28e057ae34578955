-- The loop of `leaflet::reader::check_rest`: invariant and measure. Assumes nothing.
use Rattle.std.proofs.Common.{◌≡◌, ◌≤◌, length}
use Rattle.leaflet.specs.Reader.{fault_from}
use Rattle.leaflet.specs.Enums.{spot_of}
use Rattle.leaflet.proofs.FaultSteps.{fault_at}
use Rattle.leaflet.proofs.reader.check_rest.Given as goal

-- what is left has the fault that all has
abbrev pub invariant-loop-item : goal.invariant-loop-item
invariant-loop-item l =
    (length l.left ≤ l.end)
    × (fault_at l.end (spot_of l.spot) l.left ≡ fault_from (spot_of l.fn.spot) l.at l.rest)

abbrev pub decreases-loop-item : goal.decreases-loop-item
decreases-loop-item l = length l.left
