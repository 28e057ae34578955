-- `sheet::taking::take_slot` meets its contract. Assumes nothing.
use Rattle.std.proofs.Common.{rules, sym, ◌≡◌, true, length}
use Rattle.rules.specs.Pool.{own_slots}
use Rattle.rules.specs.Sheet.{length_ok}
use Rattle.rules.specs.declared.refusal.Refusal.TheVariants.{NotTheCallers}
use Rattle.sheet.proofs.TakenSlots.{take_refused}
use Rattle.sheet.proofs.TakeLaws.{answers_3}
use Rattle.sheet.proofs.taking.take_slot.Goals as goal

pub returns-then-caller-eq0 : goal.returns-then-caller-eq0
returns-then-caller-eq0 c =
    let ws = c.args.sheet.now in
    let whole : length_ok (length ws) ≡ true = search rules in
    take_refused ws c.args.caller.0 NotTheCallers
    (sym (answers_3 (length ws) c.args.caller.0 (own_slots ws c.args.caller.0) whole c.if-caller-eq0.true))
