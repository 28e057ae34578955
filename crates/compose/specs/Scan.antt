-- The scan from the right that fills the metrics and asks 8, 12 and 9 on its way.
--
--   fine            a record to which answers 8 and 12 do not apply
--   known           a record before which all are known to be fine
--   lone            a fine record of no group
--   alike           records of a group that agree as answer 9 asks
--   scanning        the records from i on are fine and keep the rules of groups, and a unit starts with record i
--   unit before     the unit that ends before record i, where 8, 12 and 9 apply to none of its records
--   joint           what stands after a unit: the gap, and whether the break is forbidden
--   below           metrics that are the same below a record
--   filled          the metrics are filled from a record on, and those before it are as they were
--   reached         the metrics are filled down to the unit that record `stop` is in
--   front           what must be known of the metrics before that unit, so that all are filled then
--
-- Assumes nothing.
use Rattle.std.specs.Prelude.{◌≡◌, ℕ, ◌+◌, ◌*◌, ◌-◌, ◌≤◌, ◌<◌, Bool, true, false, ◌&&◌, eqb, List, take, None}
use Rattle.rules.specs.Layout.{most_records}
use Rattle.rules.specs.Limits.{most_grouped}
use Rattle.rules.specs.Records.{Rec, rec_at, records, rec_ok}
use Rattle.rules.specs.Listed.{is_listed}
use Rattle.rules.specs.Groups.{same_group, group_fault, base_total}
use Rattle.rules.specs.Sides.{side_by}
use Rattle.rules.specs.Bounds.{SideOk}
use Rattle.rules.specs.Gaps.{Gap}
use Rattle.std.specs.List.{SameBelow}
use Rattle.rules.specs.Meanings.{All}
use Rattle.compose.specs.Limits.{largest_own_advance}
use Rattle.compose.specs.Paragraph.{record_count, paragraph, units_from, unit_at, next_at}
use Rattle.compose.specs.Metrics.{outer, MetricsFrom}
use Rattle.compose.specs.Composed.{Kept}
use Rattle.compose.specs.declared.units.UnitSums.{UnitSums}
use Rattle.compose.specs.declared.metrics.Metrics.{Metrics}

pub record Fine (r : Rec) : Type 0 where
  pub sound : rec_ok r ≡ true
  pub listed : is_listed r ≡ true

abbrev pub KnownFine : List ℕ → ℕ → Type 0
KnownFine ws known = (i : ℕ) → i < known → i < record_count ws → Fine (rec_at ws i)

pub record Lone (r : Rec) : Type 0 where
  pub fine : Fine r
  pub group : r.group ≡ 0

abbrev pub alike : Rec → Rec → Bool
alike p r = eqb p.size r.size && eqb p.ruby r.ruby

pub record Scanning (ws : List ℕ) (known i : ℕ) : Type 0 where
  pub few : record_count ws ≤ most_records
  pub within : i ≤ record_count ws
  pub known_fine : All Fine (take known (paragraph ws))
  pub sound : All Fine (records ws i (record_count ws - i))
  pub grouped : group_fault (records ws i (record_count ws - i)) ≡ None
  pub apart : 0 < i → i < record_count ws → same_group (rec_at ws (i - 1)) (rec_at ws i) ≡ false

-- the unit of the records from `first` up to `end`
pub record UnitOf (ws : List ℕ) (first end base : ℕ) : Type 0 where
  pub order : first < end
  pub within : end ≤ record_count ws
  pub few : record_count ws ≤ most_records
  pub ends : next_at ws first ≡ end
  pub few_records : end ≤ first + most_grouped
  pub base_is : base ≡ base_total (unit_at ws first)
  pub light : base ≤ largest_own_advance * (end - first)
  pub fine : All Fine (records ws first (record_count ws - first))

pub record UnitBefore (ws : List ℕ) (known i : ℕ) (u : UnitSums) : Type 0 where
  pub scanning : Scanning ws known u.first
  pub unit : UnitOf ws u.first i u.base

-- the sides of the units that start with records `first` and i, if i is there
pub record JointDue (ws : List ℕ) (first i : ℕ) : Type 0 where
  pub inside : first < record_count ws
  pub left_side : SideOk (side_by (rec_at ws first))
  pub right_side : i < record_count ws → SideOk (side_by (rec_at ws i))

-- the gap after the unit that starts with record `first`, before record i, and whether the break there is forbidden: as
-- the metrics of its last record have them
pub record JointAfter (ws : List ℕ) (first i : ℕ) (gap : Gap) (forbidden : Bool) : Type 0 where
  pub gap_is : gap ≡ (outer (unit_at ws first) (units_from ws i) 0).gap
  pub forbidden_is : forbidden ≡ (outer (unit_at ws first) (units_from ws i) 0).forbidden

-- the metrics from record i on are filled
pub record FilledFrom (ws : List ℕ) (known i : ℕ) (ms : Metrics) : Type 0 where
  pub scanning : Scanning ws known i
  pub metrics : MetricsFrom ws ms i

pub record UnitToFill (ws : List ℕ) (first end base : ℕ) (gap : Gap) (forbidden : Bool) (ms : Metrics) : Type 0 where
  pub unit : UnitOf ws first end base
  pub joint : JointAfter ws first end gap forbidden
  pub metrics : MetricsFrom ws ms end

-- metrics that are the same below record n
pub record MetricsBelow (n : ℕ) (ms₀ ms : Metrics) : Type 0 where
  pub advances : SameBelow ms₀.advances ms.advances n
  pub gaps : SameBelow ms₀.gaps ms.gaps n
  pub offsets : SameBelow ms₀.offsets ms.offsets n

-- with the metrics of the unit that starts with record `first`, and those before it as they were
pub record UnitStored (ws : List ℕ) (first : ℕ) (ms₀ ms : Metrics) : Type 0 where
  pub metrics : MetricsFrom ws ms first
  pub below : MetricsBelow first ms₀ ms

-- the metrics from record `first` on, which is not past record i, and those before it as they were
pub record Filled (ws : List ℕ) (known i : ℕ) (ms₀ ms : Metrics) (first : ℕ) : Type 0 where
  pub low : first ≤ i
  pub filled : FilledFrom ws known first ms
  pub below : MetricsBelow first ms₀ ms

-- the metrics are filled from a record on that is not past `stop`, and those before it are as they were
pub record Reached (ws : List ℕ) (known stop : ℕ) (ms₀ ms : Metrics) : Type 0 where
  pub at : ℕ
  pub low : at ≤ stop
  pub metrics : FilledFrom ws known at ms
  pub below : MetricsBelow at ms₀ ms

-- the metrics before a record that is not past `stop` are known to be filled and their records to be checked: so all
-- are, once the scan has come there
abbrev pub Front : List ℕ → ℕ → ℕ → Metrics → Type 0
Front ws known stop ms₀ =
    (i : ℕ) (ms : Metrics) → i ≤ stop → FilledFrom ws known i ms → MetricsBelow i ms₀ ms →
    Kept ws ms
