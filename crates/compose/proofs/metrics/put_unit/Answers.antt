-- `compose::metrics::put_unit` meets its contract. The loop's invariant is `UnitFilling`. Assumes nothing.
use Rattle.std.proofs.Common.{◌-◌, ◌≡◌, arith, rules}
use Rattle.compose.proofs.GapSums.{nothing_yet}
use Rattle.compose.proofs.PutUnit.{fill_start, fill_more, fill_done}
use Rattle.compose.proofs.PutUnit.{offset_bounds, solid_limit, advance_limit}
use Rattle.compose.proofs.metrics.put_unit.Goals as goal

pub overflow_add-solid : goal.overflow_add-solid
overflow_add-solid c = omega (arith, solid_limit c.requires c.loop-k.invariant c.record_at-solid.ensures)

pub loop-k-preserved : goal.loop-k-preserved
loop-k-preserved c = fill_more c.requires c.record_at-r.ensures c.loop-k.invariant c.base_offset-offset.ensures
    (omega (arith, c.loop-k.auto.k-end)) (rw nothing_yet at c.put.ensures)
    c.record_at-solid.ensures

pub loop-k-init : goal.loop-k-init
loop-k-init c = search (rules, fill_start)

pub base_offset-offset-requires : goal.base_offset-offset-requires
base_offset-offset-requires c = offset_bounds c.requires c.record_at-r.ensures c.loop-k.invariant

pub group_advance-advance-requires : goal.group_advance-advance-requires
group_advance-advance-requires c =
    let bounds = offset_bounds c.requires c.record_at-r.ensures c.loop-k.invariant in
    search rules

pub put-requires-2-clause-small : goal.put-requires-2-clause-small
put-requires-2-clause-small c = search (rules, advance_limit)

pub base_offset-offset-requires-2 : goal.base_offset-offset-requires-2
base_offset-offset-requires-2 c =
    let last : c.loop-k.k ≡ c.args.end - c.args.unit.first - 1 = omega (arith, c.loop-k.invariant.inside) in
    rw (← last) (offset_bounds c.requires c.record_at-r.ensures c.loop-k.invariant)

pub returns : goal.returns
returns c =
    let last : c.loop-k.k ≡ c.args.end - c.args.unit.first - 1 = omega (arith, c.loop-k.invariant.inside) in
    let offset = rw (← last) at c.base_offset-offset-2.ensures in
    fill_done c.requires c.record_at-r.ensures c.loop-k.invariant offset (omega arith) c.group_advance-advance.ensures
    c.put-2.ensures
