-- `compose::adjustment::Adjustment::place_at` meets its contract. Assumes nothing.
use Rattle.std.proofs.Common.{arith}
use Rattle.compose.specs.Rates.{place_by}
use Rattle.compose.proofs.PlaceAt.{unpacked_shares}
use Rattle.compose.proofs.adjustment.Adjustment.place_at.Goals as goal

pub overflow_sub-result-in-Shrink : goal.overflow_sub-result-in-Shrink
overflow_sub-result-in-Shrink c =
    omega (arith, unpacked_shares c.args.self.bounds c.requires c.unpack-s.ensures)

pub overflow_add-result-in-Stretch-3 : goal.overflow_add-result-in-Stretch-3
overflow_add-result-in-Stretch-3 c =
    let shares = unpacked_shares c.args.self.bounds c.requires c.unpack-s.ensures in
    omega (arith, shares, c.args.self.rates.stretching _ _ c.in-Stretch.is)

pub returns-in-Shrink : goal.returns-in-Shrink
unfolding place_by
returns-in-Shrink c =
    let shares = unpacked_shares c.args.self.bounds c.requires c.unpack-s.ensures in
    rw (← c.unpack-s.ensures) (omega (arith, shares, c.args.self.rates.shrinking _ _ c.in-Shrink.is))

pub returns-in-Stretch : goal.returns-in-Stretch
unfolding place_by
returns-in-Stretch c =
    let shares = unpacked_shares c.args.self.bounds c.requires c.unpack-s.ensures in
    rw (← c.unpack-s.ensures) (omega (arith, shares, c.args.self.rates.stretching _ _ c.in-Stretch.is))
