-- `slot::redone::lines_redone` meets its contract: the new lines passed do not resume, and the old lines passed start
-- too early for those left. Assumes nothing.
use Rattle.std.proofs.Common.{arith}
use Rattle.slot.proofs.RedoneReport.{search_start, search_end, search_early}
use Rattle.slot.proofs.RedoneReport.{search_found, search_next}
use Rattle.slot.proofs.redone.lines_redone.Goals as goal
use Rattle.slot.proofs.redone.lines_redone.Goals.{then-stretch-first+else-j-ge1, else-stretch-first}
use Rattle.slot.proofs.redone.lines_redone.Goals.{else-j-ge1-via-then-j-ge1+else-starts_with, else-j-ge1-via-else-j-ge1}

pub loop-j-init : goal.loop-j-init
loop-j-init c = search_start _ _ _ _ c.first_redone-f.ensures

pub returns-then-starts_with : goal.returns-then-starts_with
returns-then-starts_with c =
    let w = c.starts_with.ensures.yes c.if-starts_with.true in record {
      few = omega (arith, c.requires.few);
      report = search_found _ _ _ c.loop-j.invariant c.loop-j-test.true c.if-stretch-first.true
          c.line_from-k.ensures c.if-j-ge1.true w.0 w.1;
    }

pub loop-j-preserved : goal.loop-j-preserved
loop-j-preserved c =
    elim c.if-stretch-first.branch [
      | then-stretch-first+else-j-ge1 w ↦
          rw w.k-is
          (search_next _ _ _ c.loop-j.invariant c.loop-j-test.true w.if-stretch-first.true
          w.line_from-k.ensures (λ o. elim w.else-j-ge1.branch [
            | else-j-ge1-via-then-j-ge1+else-starts_with v ↦ v.starts_with.ensures.no v.if-starts_with.false
            | else-j-ge1-via-else-j-ge1 v ↦ absurd (omega (arith, v.if-j-ge1.false))
          ]))
      | else-stretch-first w ↦
          rw w.k-is
          (search_early _ _ _ c.loop-j.invariant c.loop-j-test.true w.if-stretch-first.false)
    ]

pub returns : goal.returns
returns c = record {
  few = omega (arith, c.requires.few);
  report = rw c.saturating_sub.ensures (search_end _ _ _ c.loop-j.invariant c.loop-j-test.false);
}
