-- What stands after a unit, as `joint_after` finds it from the two sides. Assumes nothing.
use Rattle.std.proofs.Common.{◌≡◌, ◌∙◌, ℕ, ◌≤◌, ◌<◌, arith, Bool, true, false, List}
use Rattle.rules.specs.Records.{rec_at}
use Rattle.rules.specs.Sides.{Side, side_by, forbidden}
use Rattle.rules.specs.Gaps.{Gap, no_gaps, gap_of}
use Rattle.compose.specs.Paragraph.{record_count}
use Rattle.compose.specs.Metrics.{bit}
use Rattle.compose.specs.Scan.{JointAfter}
use Rattle.compose.proofs.UnitsFrom.{from_end, unit_step}

pub bit_small : (b : Bool) → bit b ≤ 1
bit_small true = omega arith
bit_small false = omega arith

module _ (ws : List ℕ) (first i : ℕ) where
  pub joint_none : record_count ws ≤ i → JointAfter ws first i no_gaps false
  joint_none h = record { gap_is = rw (from_end ws i h); forbidden_is = rw (from_end ws i h) }

  pub joint_found : first < record_count ws → i < record_count ws → {l r : Side} → l ≡ side_by (rec_at ws first) →
      r ≡ side_by (rec_at ws i) → {gap : Gap} {t : Bool} → gap ≡ gap_of l r → t ≡ forbidden l r →
      JointAfter ws first i gap t
  joint_found h k {l} {r} p q e f =
      let s = unit_step ws i k in
      let u = (unit_step ws first h).first in
      record {
        gap_is = e ∙ rw (s.rest, s.first, u, p, q);
        forbidden_is = f ∙ rw (s.rest, s.first, u, p, q);
      }
