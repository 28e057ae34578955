-- docs/RULES.md, "Where the characters of a group stand", of rows whose items stand at their solid offsets and their
-- shifts: with two or more items a row starts and ends with the group, and its inner gaps differ by at most 1; a single
-- item is centred; one that is not shorter is solid. Assumes nothing.
use Rattle.std.proofs.Common.{◌≡◌, ◌∙◌, ap, ℕ, zero, suc, ◌+◌, ◌*◌, ◌-◌, ◌/◌, ◌≤◌, ◌<◌, arith, zero-add, suc-add}
use Rattle.std.proofs.Common.{mul-suc, add-mul, div-mul-le_self, le-div_iff_mul-le, div-lt_iff_lt-mul, le-leb}
use Rattle.std.proofs.Math.Nat.{lt-div-mul-add}
use Rattle.rules.specs.Groups.{shift}
use Rattle.rules.specs.SpaceBetween.{SpaceBetween, Centred, Solid}
use Rattle.rules.proofs.Bounds.{shift_first, shift_last, shift_only, shift_small}

-- Shifts -----------------------------------------------------------------------------------------------------------

-- the floor of a sum is the sum of the floors, or 1 more
floor_low : (a b c : ℕ) → 0 < c → a / c + b / c ≤ (a + b) / c
floor_low a b c pos =
    (le-div_iff_mul-le pos).1 (omega (arith, add-mul (a / c) (b / c) c, div-mul-le_self a c, div-mul-le_self b c))

floor_high : (a b c : ℕ) → 0 < c → (a + b) / c ≤ a / c + b / c + 1
floor_high a b c pos =
    let sum : a + b < (a / c + b / c + 2) * c = omega (
      arith,
      add-mul (a / c + b / c) 2 c,
      add-mul (a / c) (b / c) c,
      lt-div-mul-add {a = a} pos,
      lt-div-mul-add {a = b} pos,
    ) in
    omega (arith, (div-lt_iff_lt-mul pos).1 sum)

-- so from one item to the next the shift grows by one amount, or 1 more
shift_low : (d n k : ℕ) → 2 ≤ n → shift d n k + d / (n - 1) ≤ shift d n (suc k)
unfolding shift
shift_low d n k h = rw (le-leb 2 n h, mul-suc d k) (floor_low (d * k) d (n - 1) (omega arith))

shift_high : (d n k : ℕ) → 2 ≤ n → shift d n (suc k) ≤ shift d n k + d / (n - 1) + 1
unfolding shift
shift_high d n k h = rw (le-leb 2 n h, mul-suc d k) (floor_high (d * k) d (n - 1) (omega arith))

-- Rows -------------------------------------------------------------------------------------------------------------

-- n items in a group of width w, each at its solid offset and its shift, in a row that is d shorter than the group
pub record SetRow (n d w : ℕ) (offset advance solid : ℕ → ℕ) : Type 0 where
  pub stands : (k : ℕ) → k < n → offset k ≡ solid k + shift d n k
  pub first : solid 0 ≡ 0
  pub next : (k : ℕ) → solid (suc k) ≡ solid k + advance k
  pub end : w ≡ solid n + d

module _ {n d w : ℕ} {offset advance solid : ℕ → ℕ} (row : SetRow n d w offset advance solid) where
  rises : (k j : ℕ) → solid k ≤ solid (j + k)
  rises k zero = rw (zero-add k) (omega arith)
  rises k (suc j) = rw (suc-add j k) (omega (arith, rises k j, row.next (j + k)))

  pub row_within : (k : ℕ) → k < n → offset k + advance k ≤ w
  row_within k h =
      let last : n - suc k + suc k ≡ n = omega arith in
      let to_end = rw last at (rises (suc k) (n - suc k)) in
      omega (arith, row.stands k h, row.next k, to_end, shift_small d n k h, row.end)

  pub row_between : 2 ≤ n → SpaceBetween n offset advance w
  row_between many =
      record {
        starts = omega (arith, row.stands 0 (omega arith), row.first, shift_first d n many);
        ends =
            let last : suc (n - 1) ≡ n = omega arith in
            let stands = row.stands (n - 1) (omega arith) in
            omega (arith, stands, row.next (n - 1), ap solid last, shift_last d n many, row.end);
        apart = λ k h. omega (arith, low k h);
        even = λ j k h i. omega (arith, high j h, low k i);
        within = row_within;
      }
    where
      -- each inner gap is one amount, or 1 more
      low : (k : ℕ) → suc k < n → offset k + advance k + d / (n - 1) ≤ offset (suc k)
      low k h =
          omega (arith, row.stands k (omega arith), row.stands (suc k) h, row.next k, shift_low d n k many)

      high : (k : ℕ) → suc k < n → offset (suc k) ≤ offset k + advance k + d / (n - 1) + 1
      high k h =
          omega (arith, row.stands k (omega arith), row.stands (suc k) h, row.next k, shift_high d n k many)

  pub row_centred : n ≡ 1 → Centred (offset 0) (advance 0) w
  row_centred one =
      let only = row.stands 0 (omega arith) ∙ ap (λ i. solid 0 + shift d i 0) one in
      let total = ap solid one ∙ row.next 0 in
      record {
        before = omega (arith, only, total, row.first, (shift_only d).0, row.end);
        after = omega (arith, only, total, row.first, (shift_only d).1, row.end);
      }

  pub row_solid : d ≡ 0 → 0 < n → Solid n offset advance
  row_solid e any =
      record {
        starts = omega (arith, unshifted 0 any, row.first);
        next = λ k h. omega (arith, unshifted k (omega arith), unshifted (suc k) h, row.next k);
      }
    where
      unshifted : (k : ℕ) → k < n → offset k ≡ solid k
      unshifted k h = omega (arith, row.stands k h, shift_small d n k h)
