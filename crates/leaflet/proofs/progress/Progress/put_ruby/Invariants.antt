-- The loop of `leaflet::progress::Progress::put_ruby`: invariant. Assumes nothing.
use Rattle.std.proofs.Common.{◌≡◌, ◌+◌, ◌-◌, ◌*◌, ◌/◌}
use Rattle.rules.specs.Layout.{record_length}
use Rattle.leaflet.specs.Written.{rubied, rubied_to}
use Rattle.leaflet.proofs.progress.Progress.put_ruby.Given as goal

-- the records from the k-th on are still to get it
abbrev pub invariant-loop-k : goal.invariant-loop-k
invariant-loop-k l =
    rubied ((l.self.end - l.self.start) / record_length - l.k) (l.self.start + record_length * l.k) l.count l.words
    ≡ rubied_to l.self.start l.self.end l.count l.initial.words
