-- `sheet::editing::replace` meets its contract. Assumes nothing.
use Rattle.std.proofs.Common.{rules, ◌≡◌, Err}
use Rattle.rules.specs.Refusals.{as_edit, edit}
use Rattle.sheet.proofs.EntryLaws.{on_range}
use Rattle.sheet.proofs.editing.replace.Goals as goal

pub returns-in_err-edited : goal.returns-in_err-edited
unfolding edit
returns-in_err-edited c =
    let e : c.from_residual-in_err-edited.result ≡ Err c.in_err-edited.field-0.0 = search rules in
    let r = c.in_ok-range.ensures in
    rw e (on_range as_edit _ _ _ _ _ _ _ _ r.entered r.start r.end c.in_err-edited.ensures)

pub returns : goal.returns
unfolding edit
returns c =
    let r = c.in_ok-range.ensures in on_range as_edit _ _ _ _ _ _ _ _ r.entered r.start r.end c.in_ok-edited.ensures
