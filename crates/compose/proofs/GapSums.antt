-- Sums of gaps: how they add up, what they come to, and those of no gap. Assumes nothing.
use Rattle.std.proofs.Common.{◌≡◌, refl, ℕ, ◌<◌, arith, add_assoc, add-zero, zero-add}
use Rattle.rules.specs.Gaps.{Gap}
use Rattle.rules.specs.Gaps.{plus, no_gaps}
use Rattle.rules.specs.Packed.{unpacked, AtMost}
use Rattle.compose.specs.Rates.{PartOf}

pub plus_assoc : (f g h : Gap) → plus (plus f g) h ≡ plus f (plus g h)
plus_assoc f g h = simp add_assoc

pub plus_nothing : (g : Gap) → plus g no_gaps ≡ g
plus_nothing g = simp add-zero

pub nothing_plus : (g : Gap) → plus no_gaps g ≡ g
nothing_plus g = simp zero-add

-- some of the gaps give and take no more than all
pub part_of : (s t c : Gap) → plus s t ≡ c → PartOf s c
part_of s t c e = rw (← e) (omega arith)

-- with one gap more
pub at_most_more : {n m : ℕ} {s g : Gap} → AtMost n s → AtMost 1 g → n < m → AtMost m (plus s g)
at_most_more a b h = omega arith

-- no gap yet
pub nothing_yet : unpacked 0 ≡ no_gaps
unfolding unpacked
nothing_yet = refl
