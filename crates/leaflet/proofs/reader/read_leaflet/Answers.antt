-- `leaflet::reader::read_leaflet` meets its contract. Assumes nothing.
use Rattle.std.proofs.Common.{rules, ◌≡◌, sym, ◌∙◌, ◌-◌, length, Err}
use Rattle.std.proofs.Common.{None}
use Rattle.leaflet.specs.Reader.{ended}
use Rattle.leaflet.specs.Enums.{spot_of}
use Rattle.leaflet.proofs.ReadLoop.{loop_start, loop_past}
use Rattle.leaflet.proofs.ReadEnds.{loop_refused, loop_ended, loop_end, loop_full}
use Rattle.leaflet.proofs.reader.read_leaflet.Goals as goal

pub loop-item-init : goal.loop-item-init
loop-item-init c = search (rules, loop_start)

pub loop-item-preserved : goal.loop-item-preserved
loop-item-preserved c =
    loop_past _ c.loop-item.invariant _ _ c.in-Some.ensures.item c.in-Some.ensures.shorter c.in-Ok.ensures

pub returns-in-Err-Refused-clause-fault : goal.returns-in-Err-Refused-clause-fault
returns-in-Err-Refused-clause-fault c =
    loop_refused _ c.loop-item.invariant _ _ c.in-Some.ensures.item
    (rw c.in-Err-Refused.field-0-is at c.in-Err-Refused.ensures)

pub returns-in-Err-Full-clause-words : goal.returns-in-Err-Full-clause-words
returns-in-Err-Full-clause-words c =
    loop_full _ c.loop-item.invariant _ _ (rw c.in-Err-Full.field-0-is at c.in-Err-Full.ensures) c.rt_ahead.ensures
    c.put_ruby.ensures (sym c.in_ok-check_rest-in-Err-Full.ensures)

-- where no item goes on
pub returns-in_err-ended-clause-fault : goal.returns-in_err-ended-clause-fault
returns-in_err-ended-clause-fault c =
    let e : c.from_residual-in_err-ended.result ≡ Err c.in_err-ended.field-0.0 = search rules in
    rw e (sym (c.in_err-ended.ensures ∙ loop_ended c.loop-item.invariant c.in_default.ensures.item))

pub returns-clause-words : goal.returns-clause-words
returns-clause-words c =
    let z : ended (spot_of c.loop-item.progress.0) (length c.args.text.now - length c.loop-item.rest.now)
    c.loop-item.rest.now
    ≡ None
    = search rules in
    loop_end c.loop-item.invariant c.in_default.ensures.item z
