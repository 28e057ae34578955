-- `slot::edit::replace` meets its contract. Assumes nothing.
use Rattle.std.proofs.Common.{rules, arith, ◌≡◌, Err}
use Rattle.rules.specs.Basics.{zeros}
use Rattle.slot.proofs.ReplacedSlot.{refused_slot, accepted_slot, count_few}
use Rattle.slot.proofs.edit.replace.Goals as goal

pub returns-in_err-count-clause-outcome : goal.returns-in_err-count-clause-outcome
returns-in_err-count-clause-outcome c =
    let e : c.from_residual.result ≡ Err c.in_err-count.field-0.0 = search rules in
    rw e
    (refused_slot c.args.words.now _ c.args.measure c.requires.whole c.args.new.few c.requires.in_measure _
    c.in_err-count.ensures.answer)

pub overflow_cast-count : goal.overflow_cast-count
overflow_cast-count c =
    let few = count_few c.args.words.now _ c.args.measure c.requires.whole c.args.new.few c.requires.in_measure _
    c.in_ok-count.ensures.answer in
    omega (arith, few)

pub returns-clause-outcome : goal.returns-clause-outcome
unfolding zeros
returns-clause-outcome c =
    accepted_slot c.args.words.now _ c.args.measure c.requires.whole c.args.new.few c.requires.in_measure _ _ _ _
    c.in_ok-count.ensures.answer
    (rw (c.new-composition.ensures.places, c.new-composition.ensures.lines) at c.in_ok-count.ensures.written)
    c.write_slot.ensures

pub returns-clause-few : goal.returns-clause-few
returns-clause-few c =
    count_few c.args.words.now _ c.args.measure c.requires.whole c.args.new.few c.requires.in_measure _
    c.in_ok-count.ensures.answer
