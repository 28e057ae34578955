-- The bounds of sound records, and of units of at most 16 of them: sizes to 4,000, group advances to 128,000.
-- Assumes nothing.
use Rattle.std.proofs.Common.{◌≡◌, ◌∙◌, ℕ, ◌+◌, ◌-◌, ◌≤◌, ◌<◌, arith, List}
use Rattle.rules.specs.Limits.{largest_advance}
use Rattle.rules.specs.Records.{rec_at, records}
use Rattle.rules.specs.Sides.{side_by}
use Rattle.rules.specs.Groups.{base_total, advance}
use Rattle.rules.specs.Meanings.{All}
use Rattle.rules.specs.Bounds.{SideOk}
use Rattle.rules.proofs.All.{all_first, all_drop}
use Rattle.rules.proofs.RecordLimits.{RecordBounds, record_bounds, side_ok}
use Rattle.rules.proofs.GroupLimits.{advance_bound_of}
use Rattle.rules.proofs.RecordWords.{drop_records}
use Rattle.compose.specs.Paragraph.{record_count, unit_at}
use Rattle.compose.specs.Scan.{Fine, UnitOf}
use Rattle.compose.proofs.UnitsFrom.{records_from, unit_step}

-- the records from record a on are sound
module _ (ws : List ℕ) (a : ℕ) (fine : All Fine (records ws a (record_count ws - a))) where
  pub record_fine : (i : ℕ) → a ≤ i → i < record_count ws → Fine (rec_at ws i)
  record_fine i l h =
      let e : a + (i - a) ≡ i = omega arith in
      let f : record_count ws - a - (i - a) ≡ record_count ws - i = omega arith in
      let d = rw (e, f) at (drop_records ws a (record_count ws - a) (i - a) (omega arith)) ∙ records_from ws i h in
      all_first (rw d at (all_drop fine (i - a)))

  pub record_limits : (i : ℕ) → a ≤ i → i < record_count ws → RecordBounds (rec_at ws i)
  record_limits i l h = record_bounds (rec_at ws i) (record_fine i l h).sound

  pub side_limits : (i : ℕ) → a ≤ i → i < record_count ws → SideOk (side_by (rec_at ws i))
  side_limits i l h = side_ok (rec_at ws i) (record_fine i l h).sound

-- the advance of a unit
pub unit_advance : {ws : List ℕ} {first end base : ℕ} → UnitOf ws first end base →
    advance (unit_at ws first) ≤ largest_advance
unfolding advance
unit_advance {ws} {first} u =
    let h : first < record_count ws = omega arith in
    let b = record_limits ws first u.fine first (omega arith) h in
    let e = (unit_step ws first h).first in
    advance_bound_of (base_total (unit_at ws first)) (unit_at ws first).first.ruby (unit_at ws first).first.size
    (omega arith) (rw e b.ruby) (rw e b.size)
