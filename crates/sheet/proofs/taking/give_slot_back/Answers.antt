-- `sheet::taking::give_slot_back` meets its contract. Assumes nothing.
use Rattle.rules.specs.Pool.{give_back_slot, giving_back}
use Rattle.sheet.proofs.EntryLaws.{on_range}
use Rattle.sheet.proofs.taking.give_slot_back.Goals as goal

pub returns : goal.returns
unfolding giving_back
returns c =
    let r = c.in_ok-range.ensures in
    on_range (λ a. a) _ _ _ give_back_slot _ _ _ _ r.entered r.start r.end c.give_back_slot.ensures
