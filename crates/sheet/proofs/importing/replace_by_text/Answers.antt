-- `sheet::importing::replace_by_text` meets its contract: the fault of the text, or the edit that an import is. Assumes
-- nothing.
use Rattle.std.proofs.Common.{rules, ◌≡◌, Err}
use Rattle.sheet.specs.declared.importing.ImportRefusal.TheVariants.{NoLeaflet, Edit}
use Rattle.sheet.proofs.ImportTexts.{import_at_fault, import_in_words}
use Rattle.sheet.proofs.importing.replace_by_text.Goals as goal

pub returns-in_err-n : goal.returns-in_err-n
returns-in_err-n c =
    let e : c.from_residual.result ≡ Err (NoLeaflet c.in_err-n.field-0.0.at) = search rules in
    rw e (import_at_fault _ _ _ _ _ c.in_err-n.ensures.fault)

pub returns-in_err-edited : goal.returns-in_err-edited
returns-in_err-edited c =
    let e : c.from_residual-in_err-edited.result ≡ Err (Edit c.in_err-edited.field-0.0) = search rules in
    rw e (import_in_words _ _ _ _ _ c.in_ok-n.ensures.words c.in_err-edited.ensures)

pub returns : goal.returns
returns c = import_in_words _ _ _ _ _ c.in_ok-n.ensures.words c.in_ok-edited.ensures
