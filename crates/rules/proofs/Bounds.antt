-- How large a size, a group's numbers and the shifts in its shorter row get; so the program's sums and products fit 32
-- bits. Assumes nothing.
use Rattle.std.proofs.Common.{◌≡◌, ℕ, ◌+◌, ◌*◌, ◌-◌, ◌/◌, ◌%◌, ◌≤◌, ◌<◌, arith, mul-le-mul, mul-le-mul_left, mul_comm}
use Rattle.std.proofs.Common.{true, false, ◌&&◌, inl, inr, le-leb, leb-true, ltb-true, eqb-true, leb, ltb, eqb}
use Rattle.std.proofs.Math.Bool.{and-eq-true_iff}
use Rattle.std.proofs.Math.Nat.{mul-div_left, div-le_of_le-mul}
use Rattle.rules.specs.Basics.{within}
use Rattle.rules.specs.Limits.{size_step, least_size, largest_size, most_ruby, largest_advance, largest_base}
use Rattle.rules.specs.Records.{size_ok}
use Rattle.rules.specs.Groups.{ruby_total, shift, ruby_ok, ruby_offset, ruby_place}
use Rattle.rules.specs.Bounds.{ShiftBounds}
use Rattle.std.proofs.lemmas.Bool.{cases_Bool}
use Rattle.rules.proofs.Shares.{none_yet}

pub ruby_total_small : (n s : ℕ) → n ≤ most_ruby → s ≤ largest_size → ruby_total n s ≤ largest_advance
ruby_total_small n s h k = mul-le-mul {m₂ = 2000} h (omega arith)

-- of two or more items in the shorter row the first is not shifted, and the last by all of the difference
pub shift_first : (d n : ℕ) → 2 ≤ n → shift d n 0 ≡ 0
unfolding shift
shift_first d n h = rw (le-leb 2 n h) (none_yet d _)

pub shift_last : (d n : ℕ) → 2 ≤ n → shift d n (n - 1) ≡ d
unfolding shift
shift_last d n h = rw (le-leb 2 n h) (mul-div_left d (omega arith))

-- a single one stands in the middle
pub shift_only : (d : ℕ) → (2 * shift d 1 0 ≤ d) × (d ≤ 2 * shift d 1 0 + 1)
unfolding shift
shift_only d = omega arith

-- no item is shifted by more than the difference
pub shift_small : (d n k : ℕ) → k < n → shift d n k ≤ d
unfolding shift
shift_small d n k h =
    elim (cases_Bool (leb 2 n)) [
      | inl e ↦ rw e (div-le_of_le-mul (n - 1) (rw (mul_comm (n - 1) d) (mul-le-mul_left d (omega arith))))
      | inr e ↦ rw e (omega arith)
    ]

-- the product of which a shift is the quotient
pub shift_product : {d n k : ℕ} → ShiftBounds d n k → d * k ≤ largest_advance * 63
shift_product b = mul-le-mul {m₂ = 63} b.difference (omega arith)

-- what holds where ruby place does not refuse
pub record RubyBounds (base n s k : ℕ) : Type 0 where
  pub total : base ≤ largest_base
  pub characters : n ≤ most_ruby
  pub size : s ≤ largest_size
  pub character : k < n

pub within_low : (lo hi x : ℕ) → within lo hi x ≡ true → lo ≤ x
within_low lo hi x e = leb-true lo x ((and-eq-true_iff (leb lo x) (leb x hi)).0 e).0

pub within_high : (lo hi x : ℕ) → within lo hi x ≡ true → x ≤ hi
within_high lo hi x e = leb-true x hi ((and-eq-true_iff (leb lo x) (leb x hi)).0 e).1

-- a size: a multiple of 8, from 8 to 4,000
pub record SizeBounds (s : ℕ) : Type 0 where
  pub eighths : s ≡ 8 * (s / 8)
  pub least : 8 ≤ s
  pub most : s ≤ largest_size

pub size_bounds : (s : ℕ) → size_ok s ≡ true → SizeBounds s
unfolding size_ok
size_bounds s e =
    let both = (and-eq-true_iff (eqb (s % size_step) 0) (within least_size largest_size s)).0 e in
    record {
      eighths = omega (arith, eqb-true (s % size_step) 0 both.0);
      least = within_low least_size largest_size s both.1;
      most = within_high least_size largest_size s both.1;
    }

pub ruby_ok_bounds : (base n s k : ℕ) → ruby_ok base n s k ≡ true → RubyBounds base n s k
ruby_ok_bounds base n s k e =
    let p = (and-eq-true_iff (size_ok s && within 1 most_ruby n && ltb k n) (within 1 largest_base base)).0 e in
    let q = (and-eq-true_iff (size_ok s && within 1 most_ruby n) (ltb k n)).0 p.0 in
    let t = (and-eq-true_iff (size_ok s) (within 1 most_ruby n)).0 q.0 in
    record {
      total = within_high 1 largest_base base p.1;
      characters = within_high 1 most_ruby n t.1;
      size = (size_bounds s t.0).most;
      character = ltb-true k n q.1;
    }

pub size_most : (s : ℕ) → size_ok s ≡ true → s ≤ largest_size
size_most s h = (size_bounds s h).most

-- ruby place, as it is refused and as it is answered
pub place_refused : (base n s k : ℕ) → ruby_ok base n s k ≡ false → (8, 0) ≡ ruby_place base n s k
unfolding ruby_place
place_refused base n s k h = rw h

pub place_answered : (base n s k : ℕ) → ruby_ok base n s k ≡ true →
    (0, ruby_offset base n s k) ≡ ruby_place base n s k
unfolding ruby_place
place_answered base n s k h = rw h

-- what the functions of a group's rows rest on
pub ruleset shift_laws = (shift_small, shift_product)

pub ruleset row_laws = (shift_small, ruby_total_small)

pub ruleset ruby_laws = (ruby_ok_bounds, shift_small, ruby_total_small, place_refused, place_answered)
