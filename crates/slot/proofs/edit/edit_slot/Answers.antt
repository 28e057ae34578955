-- `slot::edit::edit_slot` meets its contract: the rows of the table one after the other, then the new records. Assumes
-- nothing.
use Rattle.std.proofs.Common.{rules, ◌≡◌, Err}
use Rattle.rules.specs.Basics.{zeros}
use Rattle.slot.proofs.EditCounted.{refused_answer, accepted_answer}
use Rattle.slot.proofs.EditRows.{refuses_4}
use Rattle.slot.proofs.EditedList.{new_filled, new_front}
use Rattle.slot.proofs.edit.edit_slot.Goals as goal

pub returns-in_err-stored : goal.returns-in_err-stored
returns-in_err-stored c =
    let e : c.from_residual.result ≡ Err c.in_err-stored.field-0.0 = search rules in
    let damaged = c.in_err-stored.ensures.damaged in
    rw (e, damaged.0) (refuses_4 _ _ _ _ damaged.1)

pub replace-requires-clause-filled_from : goal.replace-requires-clause-filled_from
unfolding zeros
replace-requires-clause-filled_from c =
    new_filled c.requires c.in_ok-stored.ensures.lines c.in_ok-stretch.ensures.fits c.stored_records-old.ensures
    c.splice.ensures c.in_ok-stored.ensures.kept c.keep_metrics-kept.ensures

pub replace-requires-clause-front : goal.replace-requires-clause-front
unfolding zeros
replace-requires-clause-front c =
    rw c.saturating_sub.ensures
    (new_front c.requires c.in_ok-stored.ensures.lines c.in_ok-stretch.ensures.fits c.stored_records-old.ensures
    c.splice.ensures c.in_ok-stored.ensures.kept c.keep_metrics-kept.ensures)

pub returns-in_err-lines : goal.returns-in_err-lines
unfolding zeros
returns-in_err-lines c =
    let r : c.from_residual-in_err-lines.result ≡ Err c.in_err-lines.field-0.0 = search rules in
    rw r
    (refused_answer c.requires c.in_ok-stored.ensures.lines c.in_ok-stretch.ensures.fits c.stored_records-old.ensures
    c.splice.ensures _ c.in_err-lines.ensures.outcome)

pub returns : goal.returns
unfolding zeros
returns c =
    accepted_answer c.requires c.in_ok-stored.ensures.lines c.in_ok-stretch.ensures.fits c.stored_records-old.ensures
    c.splice.ensures (search rules) c.in_ok-lines.ensures.outcome c.lines_redone-redone.ensures.report
