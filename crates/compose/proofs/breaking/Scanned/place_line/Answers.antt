-- `compose::breaking::Scanned::place_line` meets its contract: at each turn the places written, with those of the
-- records left, are the line's. Assumes nothing.
use Rattle.std.proofs.Common.{arith}
use Rattle.std.proofs.lemmas.List.{get_or_default}
use Rattle.rules.specs.Gaps.{no_gaps}
use Rattle.compose.proofs.GapSums.{nothing_yet}
use Rattle.compose.proofs.PlaceLine.{metrics_start, metrics_more, turn_place, turn_sums}
use Rattle.compose.proofs.breaking.Scanned.place_line.Goals as goal

pub loop-k-init : goal.loop-k-init
loop-k-init c = rw nothing_yet (metrics_start c.args.self.paragraph.few c.requires.line)

pub overflow_add-at : goal.overflow_add-at
overflow_add-at c =
    let few = c.args.self.paragraph.few in
    record { fits = turn_place few c.requires.line c.loop-k.invariant (omega arith) _ c.place_at-at.ensures }

pub plus-sums-requires : goal.plus-sums-requires
plus-sums-requires c =
    rw (get_or_default c.args.self.metrics.now.gaps c.loop-k.k c.index-metrics-k.result no_gaps (omega arith))
    (turn_sums c.args.self.paragraph.few c.requires.line c.loop-k.invariant (omega arith))

pub loop-k-preserved : goal.loop-k-preserved
loop-k-preserved c =
    let gap = get_or_default c.args.self.metrics.now.gaps c.loop-k.k c.index-metrics-k.result no_gaps (omega arith) in
    metrics_more c.args.self.paragraph.few c.requires.line c.loop-k.invariant (omega arith) _ c.place_at-at.ensures
    (rw gap at c.plus-sums.ensures) c.put.ensures
