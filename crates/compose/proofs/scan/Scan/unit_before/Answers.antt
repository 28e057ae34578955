-- `compose::scan::Scan::unit_before` meets its contract. The loop's invariant is `UnitWalk`. Assumes nothing.
use Rattle.std.proofs.Common.{◌-◌, arith, sym, ◌∙◌, rules}
use Rattle.std.proofs.lemmas.Bool.{true≢false}
use Rattle.rules.proofs.RecordLimits.{record_bounds}
use Rattle.compose.proofs.UnitBefore.{walk_start, walk_again}
use Rattle.compose.proofs.UnitBefore.{unit_unsound, unit_first, unit_apart, unit_unlike, unit_many}
use Rattle.compose.proofs.scan.Scan.unit_before.Goals as goal

pub returns-then-not-passes-clause-ill : goal.returns-then-not-passes-clause-ill
returns-then-not-passes-clause-ill c =
    unit_unsound (c.loop-r.first - 1) (omega arith) c.record_at-r.ensures
    (λ f. true≢false (sym (c.passes.ensures.1 f) ∙ c.if-not-passes.true))

pub returns-then-first-eq0-clause-unit : goal.returns-then-first-eq0-clause-unit
returns-then-first-eq0-clause-unit c =
    unit_first c.requires.0 c.loop-r.invariant c.record_at-r.ensures (c.passes.ensures.0 c.if-not-passes.false)
    c.if-first-eq0.true

pub loop-r-preserved : goal.loop-r-preserved
loop-r-preserved c =
    walk_again c.requires.0 c.loop-r.invariant c.record_at-r.ensures (c.passes.ensures.0 c.if-not-passes.false)
    c.if-first-eq0.false c.record_at-p.ensures c.same_group.ensures c.if-not-same_group.false
    (sym c.alike.ensures ∙ c.if-not-alike.false) (omega arith)

pub loop-r-init : goal.loop-r-init
loop-r-init c = search (rules, walk_start)

pub overflow_add-base : goal.overflow_add-base
overflow_add-base c = omega (arith, record_bounds _ (c.passes.ensures.0 c.if-not-passes.false).sound)

pub returns-then-not-same_group-clause-unit : goal.returns-then-not-same_group-clause-unit
returns-then-not-same_group-clause-unit c =
    unit_apart c.requires.0 c.loop-r.invariant c.record_at-r.ensures (c.passes.ensures.0 c.if-not-passes.false)
    c.if-first-eq0.false c.record_at-p.ensures c.same_group.ensures c.if-not-same_group.true

pub returns-then-not-alike-clause-ill : goal.returns-then-not-alike-clause-ill
returns-then-not-alike-clause-ill c =
    unit_unlike c.requires.0 c.loop-r.invariant c.record_at-r.ensures (c.passes.ensures.0 c.if-not-passes.false)
    c.if-first-eq0.false c.record_at-p.ensures c.same_group.ensures c.if-not-same_group.false
    (sym c.alike.ensures ∙ c.if-not-alike.true)

pub returns-then-i-first-ge-MOST_GROUPED-clause-ill : goal.returns-then-i-first-ge-MOST_GROUPED-clause-ill
returns-then-i-first-ge-MOST_GROUPED-clause-ill c =
    unit_many c.requires.0 c.loop-r.invariant c.record_at-r.ensures (c.passes.ensures.0 c.if-not-passes.false)
    c.if-first-eq0.false c.record_at-p.ensures c.same_group.ensures c.if-not-same_group.false (omega arith)
