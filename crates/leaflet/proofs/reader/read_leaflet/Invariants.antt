-- The loop of `leaflet::reader::read_leaflet`: invariant and measure. Assumes nothing.
use Rattle.std.proofs.Common.{length}
use Rattle.leaflet.specs.Enums.{spot_of}
use Rattle.leaflet.proofs.ReadLoop.{Loop}
use Rattle.leaflet.proofs.reader.read_leaflet.Given as goal

-- what the loop changes is known by its fields: the spot, groups, ruby, end and start of `progress`
abbrev pub invariant-loop-item : goal.invariant-loop-item
invariant-loop-item l =
    let p = l.progress in
    Loop l.text l.size l.words l.rest (spot_of p.0) p.1.0 p.1.1.0 p.1.1.1.0 p.1.1.1.1.0

abbrev pub decreases-loop-item : goal.decreases-loop-item
decreases-loop-item l = length l.rest
