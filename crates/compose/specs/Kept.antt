-- The metrics that an edit keeps.
--
--   unit from    the first record, from record a on, with which a unit starts whatever stands before record a
--   moved        metrics moved from record `source` on to record `target`
--
-- Assumes nothing.
use Rattle.std.specs.Prelude.{◌≡◌, ℕ, ◌+◌, ◌-◌, ◌≤◌, ◌<◌, false, List, get_or}
use Rattle.rules.specs.Layout.{most_records}
use Rattle.rules.specs.Records.{Rec, rec_at}
use Rattle.rules.specs.Groups.{same_group}
use Rattle.compose.specs.Paragraph.{record_count}
use Rattle.std.specs.List.{SameBelow}
use Rattle.compose.specs.declared.metrics.Metrics.{Metrics}

-- it is joined to no record p before it: p is any where record i is record a, and else record i - 1
pub record UnitFrom (ws : List ℕ) (a i : ℕ) : Type 0 where
  pub low : a ≤ i
  pub within : i ≤ record_count ws
  pub apart : i < record_count ws → (p : Rec) → (a < i → p ≡ rec_at ws (i - 1)) → same_group p (rec_at ws i) ≡ false

-- a list in which `count` elements are moved; those before them are as they were
pub record Moved {A : Type 0} (source target count : ℕ) (ts₀ ts : List A) : Type 0 where
  pub below : SameBelow ts₀ ts target
  pub moved : (i : ℕ) (d : A) → i < count → get_or ts (target + i) d ≡ get_or ts₀ (source + i) d

pub record MetricsMoved (source target count : ℕ) (ms₀ ms : Metrics) : Type 0 where
  pub advances : Moved source target count ms₀.advances ms.advances
  pub gaps : Moved source target count ms₀.gaps ms.gaps
  pub offsets : Moved source target count ms₀.offsets ms.offsets

-- an old paragraph's records from record `source` on are to be a new one's from record `target` on
pub record ToKeep (ws : List ℕ) (source target : ℕ) : Type 0 where
  pub within : source ≤ record_count ws
  pub room : target + (record_count ws - source) ≤ most_records

-- its metrics are moved from the first record on with which a unit starts; in the new paragraph that is record `kept`
pub record KeptFrom (ws : List ℕ) (source target : ℕ) (ms₀ ms : Metrics) (kept : ℕ) : Type 0 where
  pub first : ℕ
  pub unit : UnitFrom ws source first
  pub place : kept ≡ target + (first - source)
  pub moved : MetricsMoved first kept (record_count ws - first) ms₀ ms
