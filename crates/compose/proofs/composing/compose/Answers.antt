-- `compose::composing::compose` meets its contract: the records are judged, then broken into lines and composed.
-- Assumes nothing.
use Rattle.compose.proofs.Answers.{compose_answer}
use Rattle.compose.proofs.composing.compose.Goals as goal

pub returns-clause-answer : goal.returns-clause-answer
returns-clause-answer c =
    compose_answer c.in_ok-check_records.ensures.kept.checked c.args.measure _ _ _ _ c.compose_lines.result
    c.compose_lines.ensures.too_wide c.compose_lines.ensures.composed
