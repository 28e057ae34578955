-- The metrics of a paragraph's records, and the arrays that hold them. The loops go from record to record and never ask
-- for groups.
--
--   advance      the unit's, at its last record; 0 at its others
--   forbidden    no line ends after the record: it is not its unit's last, or the break after the unit is forbidden
--   gap          after the unit, at its last record, where another unit follows; nothing elsewhere
--   offset       the record's, in its unit's base row
--   held         the metrics from record i on stand in arrays: advance and whether the break is forbidden in one word,
--                gap, offset
--
-- The limits are what answers 8 and 9 leave of a record. Assumes nothing.
use Rattle.std.specs.Prelude.{◌≡◌, ℕ, ◌+◌, ◌*◌, ◌≤◌, Bool, true, false, cond, List, [], ◌∷◌, ◌++◌, get_or, set}
use Rattle.rules.specs.Limits.{largest_advance}
use Rattle.rules.specs.Groups.{TextUnit, advance, base_offsets}
use Rattle.rules.specs.Gaps.{Gap}
use Rattle.rules.specs.Breaks.{forbidden_between, gap}
use Rattle.rules.specs.Gaps.{no_gaps}
use Rattle.rules.specs.Packed.{Packs, AtMost}
use Rattle.compose.specs.Limits.{largest_offset}
use Rattle.compose.specs.Paragraph.{units_from}
use Rattle.compose.specs.declared.metrics.Metrics.{Metrics}

pub record RecordMetrics : Type 0 where
  pub advance : ℕ
  pub forbidden : Bool
  pub gap : Gap
  pub offset : ℕ

abbrev pub inner : ℕ → RecordMetrics
inner o = record { advance = 0; forbidden = true; gap = no_gaps; offset = o }

-- the last record of a unit, before other units
abbrev pub outer : TextUnit → List TextUnit → ℕ → RecordMetrics
outer u [] o = record { advance = advance u; forbidden = false; gap = no_gaps; offset = o }
outer u (v ∷ us) o = record { advance = advance u; forbidden = forbidden_between u v; gap = gap u v; offset = o }

-- a unit's metrics by its records' offsets
unfoldable pub unit_metrics : TextUnit → List TextUnit → List ℕ → List RecordMetrics
unit_metrics u us [] = []
unit_metrics u us (o ∷ []) = outer u us o ∷ []
unit_metrics u us (o ∷ p ∷ os) = inner o ∷ unit_metrics u us (p ∷ os)

unfoldable pub metrics_of : List TextUnit → List RecordMetrics
metrics_of [] = []
metrics_of (u ∷ us) = unit_metrics u us (base_offsets u) ++ metrics_of us

abbrev pub bit : Bool → ℕ
bit b = cond b 1 0

-- what stands of a record's metrics
pub record MetricsAre (q : RecordMetrics) (a : ℕ) (g : Gap) (o : ℕ) : Type 0 where
  pub advance : a ≡ 2 * q.advance + bit q.forbidden
  pub gap : g ≡ q.gap
  pub offset : o ≡ q.offset
  pub advance_limit : q.advance ≤ largest_advance
  pub gap_limit : AtMost 1 q.gap
  pub packs : Packs q.gap
  pub offset_limit : q.offset ≤ largest_offset

-- what stands of the metrics of record i
abbrev pub MetricsAt : RecordMetrics → Metrics → ℕ → Type 0
MetricsAt q ms i = MetricsAre q (get_or ms.advances i 0) (get_or ms.gaps i no_gaps) (get_or ms.offsets i 0)

-- the metrics of record j are stored, and the others are as they were
pub record Stored (j a : ℕ) (forbidden : Bool) (g : Gap) (o : ℕ) (ms ms' : Metrics) : Type 0 where
  pub advances : ms'.advances ≡ set ms.advances j (2 * a + bit forbidden)
  pub gaps : ms'.gaps ≡ set ms.gaps j g
  pub offsets : ms'.offsets ≡ set ms.offsets j o

-- after the last record there is no gap
pub data Held (ms : Metrics) : ℕ → List RecordMetrics → Type 0 where
  held_none : {i : ℕ} → Held ms i []
  held_more : {i : ℕ} {q : RecordMetrics} {qs : List RecordMetrics} → MetricsAt q ms i →
      (qs ≡ [] → q.gap ≡ no_gaps) → Held ms (i + 1) qs → Held ms i (q ∷ qs)

-- the arrays hold the metrics from record i on, with which a unit starts
abbrev pub MetricsFrom : List ℕ → Metrics → ℕ → Type 0
MetricsFrom ws ms i = Held ms i (metrics_of (units_from ws i))
