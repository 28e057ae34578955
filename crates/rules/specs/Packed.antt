-- A gap in one word, so that one addition sums its space and all its capacities.
--
--   field        from the right: least, 20 bits wide; shrink stage 1 and shrink stage 2, 18 bits each; stretch stage
--                2, 8 bits
--   packed       a gap as a word; the space is least and both shrinks, stretch stage 1 twice shrink stage 2
--   unpacked     the gap that a word holds
--   at most n    what n gaps add up to: sizes go to 4,000, and to 8,000 where a gap shrinks at stage 2. The sums of
--                255 gaps stay in their fields
--   words        what a size of 8 has of an entry, on the left and on the right
--   taken        what an entry takes of a left and of a right size
--
-- Assumes nothing.
use Rattle.std.specs.Prelude.{◌≡◌, ℕ, ◌+◌, ◌*◌, ◌/◌, ◌%◌, ◌≤◌}
use Rattle.std.proofs.Common.{arith}
use Rattle.rules.specs.Limits.{largest_size}
use Rattle.rules.specs.Gaps.{Gap, least}
use Rattle.rules.specs.Spacing.{Entry, named, gap_set}

-- the field of the least holds numbers below 2^20, that of a shrink stage numbers below 2^18
abbrev pub least_field : ℕ
least_field = 1048576

abbrev pub shrink_field : ℕ
shrink_field = 262144

unfoldable pub packed : Gap → ℕ
packed g = least g + least_field * (g.shrink₁ + shrink_field * (g.shrink₂ + shrink_field * g.stretch₂))

-- a weight in its field
abbrev pub weighing : ℕ → ℕ
weighing w = least_field * shrink_field * shrink_field * w

-- the least that the gap of a word can be
abbrev pub least_in : ℕ → ℕ
least_in w = w % least_field

unfoldable pub unpacked : ℕ → Gap
unpacked w =
    let shrink₁ = w / least_field % shrink_field in
    let shrink₂ = w / least_field / shrink_field % shrink_field in
    record {
      space = least_in w + shrink₁ + shrink₂;
      shrink₁ = shrink₁;
      shrink₂ = shrink₂;
      stretch₁ = 2 * shrink₂;
      stretch₂ = w / least_field / shrink_field / shrink_field;
    }

-- a gap gives no more than it has, and stretches at stage 1 by twice what it shrinks at stage 2
pub record Packs (g : Gap) : Type 0 where
  pub gives : g.shrink₁ + g.shrink₂ ≤ g.space
  pub twice : g.stretch₁ ≡ 2 * g.shrink₂

pub record AtMost (n : ℕ) (g : Gap) : Type 0 where
  pub space : g.space ≤ largest_size * n
  pub shrink₁ : g.shrink₁ ≤ 1000 * n
  pub shrink₂ : g.shrink₂ ≤ 1000 * n
  pub stretch₂ : g.stretch₂ ≤ n

abbrev pub left_word : Entry → ℕ
left_word e = packed (gap_set e 8 0 0)

abbrev pub right_word : Entry → ℕ
right_word e = packed (gap_set e 0 8 0)

-- an entry's words for each eighth of a left and of a right size, with no weight
abbrev pub taken : ℕ → ℕ → ℕ → ℕ
taken n left right = left / 8 * left_word (named n) + right / 8 * right_word (named n)

-- a word is that of the gap that it holds
pub packed_unpacked : (w : ℕ) → packed (unpacked w) ≡ w
unfolding packed unpacked
packed_unpacked w = omega arith
