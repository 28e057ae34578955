-- `leaflet::reader::check_rest` meets its contract. Assumes nothing.
use Rattle.std.proofs.Common.{arith, rules, ◌∙◌, sym, ◌+◌, ◌-◌, length, ◌≡◌}
use Rattle.std.proofs.Common.{None, Some}
use Rattle.leaflet.specs.Spots.{step}
use Rattle.leaflet.specs.Enums.{item_of, spot_of, fault_place}
use Rattle.leaflet.proofs.FaultSteps.{fault_ended, fault_refused, fault_past}
use Rattle.leaflet.proofs.reader.check_rest.Goals as goal

pub returns-in_err-spot : goal.returns-in_err-spot
returns-in_err-spot c =
    let o : step (spot_of c.loop-item.spot) (item_of c.in-Some.item) ≡ None = search rules in
    let e : fault_place c.from_residual.result ≡ Some (c.args.at + length c.args.rest.now - length c.loop-item.left.now)
    = search rules in
    e ∙ sym (fault_refused _ _ _ (sym c.in-Some.ensures.item) o) ∙ c.loop-item.invariant.1

pub loop-item-preserved : goal.loop-item-preserved
loop-item-preserved c =
    let o : Some (spot_of c.in_ok-spot.spot) ≡ step (spot_of c.loop-item.spot) (item_of c.in-Some.item)
    = search rules in (
      omega (arith, c.in-Some.ensures.shorter),
      sym (fault_past _ _ _ (sym c.in-Some.ensures.item) (sym o) c.loop-item.invariant.0) ∙ c.loop-item.invariant.1,
    )

pub returns : goal.returns
returns c =
    c.ended.ensures ∙ sym (fault_ended _ _ _ (sym c.in_default.ensures.item)) ∙ c.loop-item.invariant.1
