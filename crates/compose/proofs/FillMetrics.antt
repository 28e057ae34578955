-- The scan that fills the metrics, unit by unit: what `fill_lone` and `fill_unit` hand on, and how `fill_metrics`
-- ends. Assumes nothing.
use Rattle.std.proofs.Common.{◌≡◌, refl, ℕ, ◌+◌, ◌-◌, ◌≤◌, ◌<◌, arith, Bool, List, eqb-true}
use Rattle.std.proofs.Math.Nat.{sub-zero}
use Rattle.rules.specs.Layout.{most_records}
use Rattle.rules.specs.Records.{Rec, rec_at, group_ok}
use Rattle.rules.specs.Groups.{group_fault, shift, base_offset, group_advance}
use Rattle.rules.specs.Gaps.{Gap}
use Rattle.rules.specs.Sides.{side_by}
use Rattle.rules.specs.Bounds.{SideOk}
use Rattle.rules.specs.Meanings.{all_none}
use Rattle.rules.proofs.RecordLimits.{asked}
use Rattle.compose.specs.Paragraph.{record_count}
use Rattle.compose.specs.Metrics.{metrics_of, Stored, held_none}
use Rattle.compose.specs.Scan.{Lone, Scanning, UnitBefore, JointDue, JointAfter}
use Rattle.compose.specs.Scan.{UnitToFill, UnitStored, Filled, FilledFrom, Front}
use Rattle.compose.specs.declared.units.UnitSums.{UnitSums}
use Rattle.compose.proofs.UnitsFrom.{from_end}
use Rattle.compose.proofs.Checked.{fine_checked}
use Rattle.compose.proofs.Faults.{records_end}
use Rattle.compose.proofs.Limits.{side_limits}
use Rattle.compose.proofs.UnitBefore.{unit_alone}
use Rattle.compose.proofs.PutMetrics.{Rooms}
use Rattle.compose.proofs.PutUnit.{fill_start, fill_done}
use Rattle.compose.specs.declared.metrics.Metrics.{Metrics}

-- metrics filled, and filled on -----------------------------------------------------------------------------------

module _ {ws : List ℕ} {known : ℕ} where
  -- the side of the unit that starts there is in order
  pub next_ok : {i : ℕ} → Scanning ws known i → i < record_count ws → SideOk (side_by (rec_at ws i))
  next_ok {i} s h = side_limits ws i s.sound i (omega arith) h

-- the unit before record i ------------------------------------------------------------------------------------------

module _ {ws : List ℕ} {known i : ℕ} {u : UnitSums} (b : UnitBefore ws known i u) where
  pub unit_inside : u.first < record_count ws
  unit_inside = let t = b.unit in omega arith

  unit_side : SideOk (side_by (rec_at ws u.first))
  unit_side = side_limits ws u.first b.unit.fine u.first (omega arith) unit_inside

  -- the metrics from record i on are filled
  module _ {ms : Metrics} (p : FilledFrom ws known i ms) where
    pub joint_due : JointDue ws u.first i
    joint_due = record { inside = unit_inside; left_side = unit_side; right_side = next_ok p.scanning }

    pub to_fill : {gap : Gap} {forbidden : Bool} → JointAfter ws u.first i gap forbidden →
        UnitToFill ws u.first i u.base gap forbidden ms
    to_fill a = record { unit = b.unit; joint = a; metrics = p.metrics }

    pub unit_filled : {ms' : Metrics} → UnitStored ws u.first ms ms' → Filled ws known i ms ms' u.first
    unit_filled f =
        let t = b.unit in
        record {
          low = omega arith;
          filled = record { scanning = b.scanning; metrics = f.metrics };
          below = f.below;
        }

-- a record of no group ----------------------------------------------------------------------------------------------

module _ {r : Rec} (q : Lone r) where
  no_ruby : r.ruby ≡ 0
  unfolding group_ok
  no_ruby = eqb-true r.ruby 0 (rw q.group at (asked r q.fine.sound).group)

  -- its metrics hold its own advance and the offset 0
  no_offset : (i : ℕ) → 0 ≡ base_offset r.advance r.ruby r.size (i + 1 - i) 0 0
  unfolding base_offset shift
  no_offset i = let e : i + 1 - i ≡ 1 = omega arith in rw (no_ruby, e) (omega arith)

  own_advance : r.advance ≡ group_advance r.advance r.ruby r.size
  unfolding group_advance
  own_advance = rw no_ruby (omega arith)

  -- r is record i
  module _ {ws : List ℕ} {known i : ℕ} {ms : Metrics} (p : FilledFrom ws known (i + 1) ms) (here : r ≡ rec_at ws i)
    where
      lone : UnitBefore ws known (i + 1) (record { first = i; base = r.advance })
      lone = unit_alone p.scanning i refl here q.fine q.group

      pub lone_due : JointDue ws i (i + 1)
      lone_due = joint_due lone p

      pub lone_filled : Rooms ms → {gap : Gap} {forbidden : Bool} {ms' : Metrics} →
          JointAfter ws i (i + 1) gap forbidden → Stored i r.advance forbidden gap 0 ms ms' →
          Filled ws known (i + 1) ms ms' i
      lone_filled rooms a s =
          let t = to_fill lone p a in
          let e : i + 1 - 1 ≡ i = omega arith in
          unit_filled lone p (fill_done t here (fill_start t rooms) (no_offset i) (omega arith) own_advance (rw e s))

-- how the scan starts and ends --------------------------------------------------------------------------------------

-- no metrics are filled yet
pub metrics_none : {ws : List ℕ} {ms : Metrics} → record_count ws ≤ most_records → FilledFrom ws 0 (record_count ws) ms
unfolding group_fault metrics_of
metrics_none {ws} h =
    let e = records_end ws (record_count ws) (omega arith) in
    record {
      scanning =
          record {
            few = h;
            within = omega arith;
            known_fine = all_none;
            sound = rw e all_none;
            grouped = rw e;
            apart = λ a l. let z : ⊥ = omega arith in absurd z;
          };
      metrics = rw (from_end ws (record_count ws) (omega arith)) held_none;
    }

-- a scan down to record 0 needs no metrics before it
pub front_none : (ws : List ℕ) (known : ℕ) (ms : Metrics) → Front ws known 0 ms
front_none ws known ms₀ i ms l r b =
    let e : i ≡ 0 = omega arith in
    let c = rw (e, sub-zero) at r.scanning.sound in
    record {
      checked = fine_checked r.scanning.few c (rw (e, sub-zero) at r.scanning.grouped);
      metrics = rw e at r.metrics;
    }
