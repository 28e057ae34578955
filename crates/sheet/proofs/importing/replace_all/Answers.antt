-- `sheet::importing::replace_all` meets its contract. Assumes nothing.
use Rattle.std.proofs.Common.{rules, ◌≡◌, Err}
use Rattle.sheet.proofs.ImportEdits.{replaced_on_range}
use Rattle.sheet.proofs.importing.replace_all.Goals as goal

pub returns-in_err-edited : goal.returns-in_err-edited
returns-in_err-edited c =
    let e : c.from_residual-in_err-edited.result ≡ Err c.in_err-edited.field-0.0 = search rules in
    let r = c.in_ok-range.ensures in
    rw e (replaced_on_range _ _ _ _ _ _ _ _ r.entered r.start r.end c.in_err-edited.ensures)

pub returns : goal.returns
returns c =
    let r = c.in_ok-range.ensures in replaced_on_range _ _ _ _ _ _ _ _ r.entered r.start r.end c.in_ok-edited.ensures
