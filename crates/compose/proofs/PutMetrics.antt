-- What `put` leaves: the metrics stored, and the others as they were. Assumes nothing.
use Rattle.std.proofs.Common.{◌≡◌, ℕ, ◌+◌, ◌*◌, ◌≤◌, ◌<◌, arith, List, Bool, length, length-set, get_or-set_same}
use Rattle.std.proofs.Common.{get_or-set_other}
use Rattle.rules.specs.Layout.{most_records}
use Rattle.rules.specs.Gaps.{Gap, no_gaps}
use Rattle.compose.specs.Metrics.{RecordMetrics, bit, MetricsAre, MetricsAt, Stored, Held, held_none, held_more}
use Rattle.compose.specs.Scan.{MetricsBelow}
use Rattle.compose.specs.declared.metrics.Metrics.{Metrics}

pub metrics_below : {q : RecordMetrics} {n i : ℕ} {ms ms' : Metrics} → MetricsBelow n ms ms' →
    i < n → MetricsAt q ms i → MetricsAt q ms' i
metrics_below {i = i} b l h = rw (b.advances i 0 l, b.gaps i no_gaps l, b.offsets i 0 l) h

-- all metrics have room
pub record Rooms (ms : Metrics) : Type 0 where
  pub advances : length ms.advances ≡ most_records
  pub gaps : length ms.gaps ≡ most_records
  pub offsets : length ms.offsets ≡ most_records

module _ {j a : ℕ} {forbidden : Bool} {g : Gap} {o : ℕ} {ms ms' : Metrics} (s : Stored j a forbidden g o ms ms') where
  pub metrics_stored : {q : RecordMetrics} → MetricsAre q (2 * a + bit forbidden) g o → Rooms ms → j < most_records →
      MetricsAt q ms' j
  metrics_stored h m l =
      rw (
        s.advances,
        s.gaps,
        s.offsets,
        get_or-set_same ms.advances j (2 * a + bit forbidden) 0 (omega arith),
        get_or-set_same ms.gaps j g no_gaps (omega arith),
        get_or-set_same ms.offsets j o 0 (omega arith),
      ) h

  pub below_stored : {n : ℕ} → n ≤ j → MetricsBelow n ms ms'
  below_stored h =
      record {
        advances = λ k d l. let o : k ≡ j → ⊥ = λ e. omega arith in rw (s.advances, get_or-set_other);
        gaps = λ k d l. let o : k ≡ j → ⊥ = λ e. omega arith in rw (s.gaps, get_or-set_other);
        offsets = λ k d l. let o : k ≡ j → ⊥ = λ e. omega arith in rw (s.offsets, get_or-set_other);
      }

  -- the metrics of another record
  other : {q : RecordMetrics} (k : ℕ) → (k ≡ j → ⊥) → MetricsAt q ms k → MetricsAt q ms' k
  other k n h =
      rw (s.advances, s.gaps, s.offsets, get_or-set_other, get_or-set_other, get_or-set_other) h

  pub held_kept : {i : ℕ} {qs : List RecordMetrics} → j < i → Held ms i qs → Held ms' i qs
  held_kept l held_none = held_none
  held_kept l (held_more {i = i} w n h) =
      held_more (other i (λ e. omega arith) w) n (held_kept (omega arith) h)

  pub rooms_kept : Rooms ms → Rooms ms'
  rooms_kept m =
      record {
        advances = rw (s.advances, length-set) m.advances;
        gaps = rw (s.gaps, length-set) m.gaps;
        offsets = rw (s.offsets, length-set) m.offsets;
      }
