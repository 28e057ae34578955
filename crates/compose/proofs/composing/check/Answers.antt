-- `compose::composing::check` meets its contract: the records are judged, then broken into lines. Assumes nothing.
use Rattle.compose.proofs.Answers.{check_answer, check_starts}
use Rattle.compose.proofs.FillMetrics.{metrics_none, front_none}
use Rattle.compose.proofs.composing.check.Goals as goal

pub check_records-requires-clause-filled_from : goal.check_records-requires-clause-filled_from
check_records-requires-clause-filled_from c = rw c.len.ensures (metrics_none c.args.paragraph.few)

pub check_records-requires-clause-front : goal.check_records-requires-clause-front
check_records-requires-clause-front c = front_none c.args.paragraph.words.now 0 c.args.metrics.now

pub returns-clause-answer : goal.returns-clause-answer
returns-clause-answer c =
    check_answer c.in_ok-check_records.ensures.kept.checked c.args.measure _ c.break_lines.result
    c.break_lines.ensures.too_wide c.break_lines.ensures.broken

pub returns-clause-started : goal.returns-clause-started
returns-clause-started c =
    check_starts c.in_ok-check_records.ensures.kept.checked c.args.measure _ c.break_lines.result
    c.break_lines.ensures.broken
