-- `slot::giving::give_back_slot` meets its contract. Assumes nothing.
use Rattle.std.proofs.Common.{rules, refl, ◌≡◌, Err}
use Rattle.slot.proofs.GiveBackLaws.{gives_4, gives_emptied}
use Rattle.slot.proofs.giving.give_back_slot.Goals as goal

pub returns-in_err-stored_lines : goal.returns-in_err-stored_lines
returns-in_err-stored_lines c =
    let e : c.from_residual.result ≡ Err c.in_err-stored_lines.field-0.0 = search rules in
    let damaged = c.in_err-stored_lines.ensures.damaged in
    rw (e, damaged.0) (gives_4 c.args.words.now _ _ damaged.1 (refl, refl))

pub returns : goal.returns
returns c =
    gives_emptied c.args.words.now _ _ _ c.requires c.in_ok-stored_lines.ensures.lines.sound_is c.clear.ensures
    (refl, refl)
