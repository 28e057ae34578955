-- `compose::composing::first_fault` meets its contract: what each search finds, where those before it find nothing.
-- Assumes nothing.
use Rattle.std.proofs.Common.{arith}
use Rattle.rules.specs.Records.{bad_record}
use Rattle.rules.specs.Listed.{not_listed}
use Rattle.compose.proofs.Answers.{fault_8, fault_12, fault_9, no_fault, place_8, place_12, place_9}
use Rattle.compose.proofs.composing.first_fault.Goals as goal

pub overflow_cast-result : goal.overflow_cast-result
unfolding bad_record
overflow_cast-result c =
    omega (arith, place_8 c.args.paragraph.words.now c.args.paragraph.few c.in-Some.ensures)

pub returns-in-Some-clause-refused : goal.returns-in-Some-clause-refused
unfolding bad_record
returns-in-Some-clause-refused c = fault_8 c.args.paragraph.words.now c.in-Some.ensures

pub overflow_cast-result-in-Some-first_failing_record : goal.overflow_cast-result-in-Some-first_failing_record
unfolding not_listed
overflow_cast-result-in-Some-first_failing_record c =
    omega (arith, place_12 c.args.paragraph.words.now c.args.paragraph.few c.in-Some-first_failing_record.ensures)

pub returns-in-Some-first_failing_record-clause-refused : goal.returns-in-Some-first_failing_record-clause-refused
unfolding bad_record not_listed
returns-in-Some-first_failing_record-clause-refused c =
    fault_12 c.args.paragraph.words.now c.in_default.ensures c.in-Some-first_failing_record.ensures

pub overflow_cast-result-in-Some-first_group_fault : goal.overflow_cast-result-in-Some-first_group_fault
overflow_cast-result-in-Some-first_group_fault c =
    omega (arith, place_9 c.args.paragraph.words.now c.args.paragraph.few c.in-Some-first_group_fault.ensures)

pub returns-in-Some-first_group_fault-clause-refused : goal.returns-in-Some-first_group_fault-clause-refused
unfolding bad_record not_listed
returns-in-Some-first_group_fault-clause-refused c =
    fault_9 c.args.paragraph.words.now c.in_default.ensures c.in_default-first_failing_record.ensures
    c.in-Some-first_group_fault.ensures

pub returns-clause-accepted : goal.returns-clause-accepted
unfolding bad_record not_listed
returns-clause-accepted c =
    no_fault c.args.paragraph.words.now c.in_default.ensures c.in_default-first_failing_record.ensures
    c.in_default-first_group_fault.ensures c.args.paragraph.few
