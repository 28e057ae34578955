-- `slot::edit::stored_lines` meets its contract: answer 4 test by test, and else the lines of the stored records.
-- Assumes nothing.
use Rattle.std.proofs.Common.{refl, sym}
use Rattle.slot.proofs.StoredRecords.{limits_off, count_off, use_off, told_damaged, told_lines}
use Rattle.slot.proofs.edit.stored_lines.Goals as goal

pub returns-in_default-clause-damaged : goal.returns-in_default-clause-damaged
returns-in_default-clause-damaged c = (refl, limits_off _ (sym c.in_default.ensures.limits))

pub returns-then-words-gt-MOST_COUNT-clause-damaged : goal.returns-then-words-gt-MOST_COUNT-clause-damaged
returns-then-words-gt-MOST_COUNT-clause-damaged c =
    (refl, count_off _ (sym c.in-Some.ensures.limits) c.if-words-gt-MOST_COUNT.true)

pub returns-then-words-gt1-clause-damaged : goal.returns-then-words-gt1-clause-damaged
returns-then-words-gt1-clause-damaged c =
    (refl, use_off _ (sym c.in-Some.ensures.limits) c.if-words-gt-MOST_COUNT.false c.if-words-gt1.true)

pub returns-in-Ok-clause-lines : goal.returns-in-Ok-clause-lines
returns-in-Ok-clause-lines c =
    told_lines _ c.requires (sym c.in-Some.ensures.limits) c.if-words-gt-MOST_COUNT.false c.if-words-gt1.false _
    c.in-Some.ensures.value c.stored_records.ensures _ _ c.in-Ok.ensures.answer c.in-Ok.ensures.started

pub returns-in-Err-clause-damaged : goal.returns-in-Err-clause-damaged
returns-in-Err-clause-damaged c = (
  refl,
  told_damaged _ c.requires (sym c.in-Some.ensures.limits) c.if-words-gt-MOST_COUNT.false c.if-words-gt1.false
      c.in-Some.measure c.in-Some.ensures.value c.stored_records.ensures _ c.in-Err.ensures.answer,
)
