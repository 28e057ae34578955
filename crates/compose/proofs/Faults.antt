-- The loops of answers 8, 12 and 9, as steps: what is left from a record on gives what the whole paragraph gives.
-- Assumes nothing.
use Rattle.std.proofs.Common.{◌≡◌, ℕ, suc, ◌+◌, ◌-◌, ◌≤◌, ◌<◌, arith, Bool, true, false, List, [], ◌∷◌, inl, inr}
use Rattle.std.proofs.Common.{None, Some, lt-ltb, le-ltb}
use Rattle.std.proofs.Math.Nat.{sub-zero}
use Rattle.rules.specs.Limits.{most_grouped}
use Rattle.rules.specs.Basics.{first_failing}
use Rattle.rules.specs.Records.{Rec, rec_at, records}
use Rattle.rules.specs.Groups.{same_group, bad_group, group_fault}
use Rattle.std.proofs.lemmas.Bool.{cases_lt}
use Rattle.compose.specs.Paragraph.{record_count, paragraph}
use Rattle.compose.specs.Scan.{alike}
use Rattle.compose.proofs.UnitsFrom.{records_from}

pub records_end : (ws : List ℕ) (i : ℕ) → record_count ws ≤ i → records ws i (record_count ws - i) ≡ []
unfolding records
records_end ws i h = let e : record_count ws - i ≡ 0 = omega arith in rw e

-- Answers 8 and 12 -------------------------------------------------------------------------------------------------

-- the records before i pass a test
pub record Passed (t : Rec → Bool) (ws : List ℕ) (i : ℕ) : Type 0 where
  pub same : first_failing t i (records ws i (record_count ws - i)) ≡ first_failing t 0 (paragraph ws)

module _ {t : Rec → Bool} {ws : List ℕ} where
  pub passed_end : {i : ℕ} → record_count ws ≤ i → Passed t ws i → None ≡ first_failing t 0 (paragraph ws)
  unfolding first_failing
  passed_end {i} h s = rw (← s.same, records_end ws i h)

  -- record i is r, and the test says b
  module _ {i : ℕ} (s : Passed t ws i) (h : i < record_count ws) {r : Rec} (q : r ≡ rec_at ws i) {b : Bool}
      (e : b ≡ t r) where
    pub passed_more : b ≡ true → Passed t ws (i + 1)
    unfolding first_failing
    passed_more p =
        let y : t (rec_at ws i) ≡ true = cc in
        let n : suc i ≡ i + 1 = omega arith in
        record { same = rw (records_from ws i h, first_failing, y, n) at s.same }

    pub passed_not : b ≡ false → Some i ≡ first_failing t 0 (paragraph ws)
    unfolding first_failing
    passed_not p =
        let y : t (rec_at ws i) ≡ false = cc in
        rw (← s.same, records_from ws i h, first_failing, y)

-- Answer 9 ---------------------------------------------------------------------------------------------------------

-- the records before i keep the rules of groups, and the last of them is the count-th of its group
pub record Grouped (ws : List ℕ) (i count : ℕ) : Type 0 where
  pub low : 1 ≤ i
  pub few : count ≤ most_grouped
  pub same : bad_group i count (rec_at ws (i - 1)) (records ws i (record_count ws - i)) ≡ group_fault (paragraph ws)

module _ {ws : List ℕ} where
  pub grouped_start : Grouped ws 1 1
  unfolding bad_group group_fault
  grouped_start = record { low = omega arith; few = omega arith; same = start }
    where
      start : bad_group 1 1 (rec_at ws 0) (records ws 1 (record_count ws - 1)) ≡ group_fault (paragraph ws)
      start =
          elim (cases_lt 0 (record_count ws)) [
            | inl h ↦ rw (rw sub-zero at (records_from ws 0 h), group_fault)
            | inr h ↦ rw (rw sub-zero at (records_end ws 0 h), records_end ws 1 (omega arith))
          ]

  pub grouped_end : {i count : ℕ} → record_count ws ≤ i → Grouped ws i count → None ≡ group_fault (paragraph ws)
  unfolding bad_group
  grouped_end {i} h g = rw (← g.same, records_end ws i h)

-- two records have equal size and equal ruby count

-- record i is r, and the one before it p; b says whether they are of one group
module _ {ws : List ℕ} {i count : ℕ} (inside : i < record_count ws) (g : Grouped ws i count) {p r : Rec}
    (before : p ≡ rec_at ws (i - 1)) (here : r ≡ rec_at ws i) {b : Bool} (t : b ≡ same_group p r) where
  left : bad_group i count p (r ∷ records ws (i + 1) (record_count ws - (i + 1))) ≡ group_fault (paragraph ws)
  left = rw (before, here, ← records_from ws i inside) g.same

  -- they differ, or r is the seventeenth
  pub grouped_unlike : b ≡ true → alike p r ≡ false → Some i ≡ group_fault (paragraph ws)
  unfolding bad_group
  grouped_unlike j a = rw (← left, bad_group, ← t, j, a)

  pub grouped_many : b ≡ true → alike p r ≡ true → most_grouped ≤ count → Some i ≡ group_fault (paragraph ws)
  unfolding bad_group
  grouped_many j a h = rw (← left, bad_group, ← t, j, a, le-ltb _ _ h)

  -- from the next record on, with r the k-th of its group
  next : (k : ℕ) → k ≤ most_grouped →
      bad_group (suc i) k r (records ws (i + 1) (record_count ws - (i + 1))) ≡ group_fault (paragraph ws) →
      Grouped ws (i + 1) k
  next k h e =
      let a : suc i ≡ i + 1 = omega arith in
      let d : i + 1 - 1 ≡ i = omega arith in
      record { low = omega arith; few = h; same = rw d (rw (a, here) at e) }

  pub grouped_more : b ≡ true → alike p r ≡ true → count < most_grouped → Grouped ws (i + 1) (count + 1)
  unfolding bad_group
  grouped_more j a h =
      let e : suc count ≡ count + 1 = omega arith in
      next (count + 1) (omega arith) (rw (bad_group, ← t, j, a, lt-ltb _ _ h, e) at left)

  pub grouped_other : b ≡ false → Grouped ws (i + 1) 1
  unfolding bad_group
  grouped_other j = next 1 (omega arith) (rw (bad_group, ← t, j) at left)
