-- `compose::breaking::Scanned::longest_line` meets its contract: what is left from a record on gives what the whole
-- search gives. Assumes nothing.
use Rattle.std.proofs.Common.{inl, inr, arith}
use Rattle.std.proofs.lemmas.List.{get_or_default}
use Rattle.rules.specs.Gaps.{no_gaps}
use Rattle.compose.proofs.GapSums.{nothing_yet}
use Rattle.compose.proofs.LongestLine.{search_start, search_end, turn}
use Rattle.compose.proofs.breaking.Scanned.longest_line.Goals as goal
use Rattle.compose.proofs.breaking.Scanned.longest_line.Goals.{then-word-eq0, else-word-eq0}

pub search-preserved : goal.search-preserved
search-preserved c =
    let here = turn c.args.self.paragraph.few c.requires c.search.invariant (omega arith) in
    let gap = get_or_default c.args.self.metrics.now.gaps c.search.k c.index-metrics-k.result no_gaps (omega arith) in
    here.on (omega (arith, c.least.ensures, c.if-measure-solid.false)) (rw gap at c.plus-total.ensures)
    (elim c.if-word-eq0.branch [
      | then-word-eq0 w ↦ inl (w.if-word-eq0.true, w.line-is)
      | else-word-eq0 w ↦ inr (w.if-word-eq0.false, w.line-is)
    ])

pub returns-then-measure-solid : goal.returns-then-measure-solid
returns-then-measure-solid c =
    let here = turn c.args.self.paragraph.few c.requires c.search.invariant (omega arith) in
    let e = here.over (omega (arith, c.least.ensures, c.if-measure-solid.true)) in
    record { none_fits = e.none_fits; line = e.line_from }

pub search-init : goal.search-init
search-init c = rw nothing_yet (search_start c.args.self.paragraph.few c.requires)

pub plus-total-requires : goal.plus-total-requires
plus-total-requires c =
    let here = turn c.args.self.paragraph.few c.requires c.search.invariant (omega arith) in
    rw (get_or_default c.args.self.metrics.now.gaps c.search.k c.index-metrics-k.result no_gaps (omega arith)) here.sums

pub returns-after-search : goal.returns-after-search
returns-after-search c =
    let e = search_end c.args.self.paragraph.few c.requires c.search.invariant (omega arith) in
    record { none_fits = e.none_fits; line = e.line_from }
