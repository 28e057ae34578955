-- The loop of `slot::redone::line_from`: invariant. Assumes nothing.
use Rattle.std.proofs.Common.{ℕ, ◌≤◌, ◌<◌, get_or}
use Rattle.slot.proofs.redone.line_from.Given as goal

abbrev pub invariant-loop-j : goal.invariant-loop-j
invariant-loop-j l =
    (k : ℕ) → k < l.j → l.from ≤ k → get_or l.starts k 0 < l.first
