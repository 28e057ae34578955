-- `compose::checks::first_group_fault` meets its contract: the records passed keep the rules of groups.
-- Assumes nothing.
use Rattle.std.proofs.Common.{sym, ◌∙◌, ◌<◌, arith, rules}
use Rattle.compose.specs.Paragraph.{record_count}
use Rattle.compose.proofs.Faults.{grouped_start, grouped_end}
use Rattle.compose.proofs.Faults.{grouped_unlike, grouped_many, grouped_more, grouped_other}
use Rattle.compose.proofs.checks.first_group_fault.Goals as goal
use Rattle.compose.proofs.checks.first_group_fault.Goals.{then-same_group+else-not-alike+then-count-lt-MOST_GROUPED}
use Rattle.compose.proofs.checks.first_group_fault.Goals.{else-same_group}

pub loop-i-preserved : goal.loop-i-preserved
loop-i-preserved c = elim c.if-same_group.branch [
  | then-same_group+else-not-alike+then-count-lt-MOST_GROUPED w ↦
      let same = sym w.alike.ensures ∙ w.if-not-alike.false in rw w.count-is (search (rules, grouped_more))
  | else-same_group w ↦ rw w.count-is (search (rules, grouped_other))
]

pub loop-i-init : goal.loop-i-init
loop-i-init c = grouped_start

pub returns-then-not-alike : goal.returns-then-not-alike
returns-then-not-alike c =
    let inside : c.loop-i.i < record_count c.args.paragraph.words.now = omega arith in
    let unlike = sym c.alike.ensures ∙ c.if-not-alike.true in
    search (rules, grouped_unlike)

pub returns-else-count-lt-MOST_GROUPED : goal.returns-else-count-lt-MOST_GROUPED
returns-else-count-lt-MOST_GROUPED c =
    let inside : c.loop-i.i < record_count c.args.paragraph.words.now = omega arith in
    let same = sym c.alike.ensures ∙ c.if-not-alike.false in
    search (rules, grouped_many)

pub returns : goal.returns
returns c = search (rules, grouped_end)
