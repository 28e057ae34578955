-- `compose::adjustment::line_amounts` meets its contract. Assumes nothing.
use Rattle.std.proofs.Common.{◌≡◌, cond, ◌-◌}
use Rattle.rules.specs.Adjustment.{amounts}
use Rattle.compose.proofs.adjustment.line_amounts.Goals as goal
use Rattle.compose.proofs.adjustment.line_amounts.Goals.{then-last, else-last}

pub returns : goal.returns
unfolding amounts
returns c =
    let stretch : c.if-last.stretch ≡ cond c.args.last 0 (c.args.measure - c.args.natural) = elim c.if-last.branch [
      | then-last w ↦ rw (w.stretch-is, w.if-last.true)
      | else-last w ↦ rw (w.stretch-is, w.if-last.false) w.saturating_sub-stretch.ensures
    ] in
    rw (c.min-shrink1.ensures, c.min-stretch1.ensures, c.saturating_sub-shrink.ensures, stretch)
