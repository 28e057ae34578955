-- What the gaps of a line come to, stage by stage. Assumes nothing.
use Rattle.std.proofs.Common.{◌≡◌, ℕ, ◌+◌, ◌-◌, ◌≤◌, arith, zero-mul, add-zero, Bool, List}
use Rattle.std.proofs.Math.Nat.{sub_self}
use Rattle.rules.specs.Basics.{Run}
use Rattle.rules.specs.Groups.{TextUnit}
use Rattle.rules.specs.Gaps.{Gap}
use Rattle.rules.specs.Breaks.{width}
use Rattle.rules.specs.Adjustment.{amounts_of, share, totals, gaps_of}
use Rattle.rules.specs.Meanings.{GapAt, gap_here, gap_later, WithinLimits, FirstStageFull}
use Rattle.rules.proofs.Shares.{share_cap, full_share}
use Rattle.rules.proofs.LineEnds.{taken}

-- the gaps before one, and the gap, are no more than all
gaps_within : {u : TextUnit} {us : List TextUnit} {s g : Gap} → GapAt u us s g →
    (s.shrink₁ + g.shrink₁ ≤ (totals u us).shrink₁) × (s.stretch₁ + g.stretch₁ ≤ (totals u us).stretch₁)
unfolding totals
gaps_within gap_here = omega arith
gaps_within (gap_later h) = omega (arith, gaps_within h)

not_below : (space a b c d p q : ℕ) → a ≤ p → b ≤ q → space - p - q ≤ (space - a - b) + c + d
not_below space a b c d p q h k = omega arith

not_above : (space a b c d p : ℕ) → c ≤ p → d ≡ 0 → (space - a - b) + c + d ≤ space + p
not_above space a b c d p h k = omega arith

share_limit : (e c s g : ℕ) → e ≤ c → share e c s (s + g) ≤ g
share_limit e c s g h = omega (arith, share_cap e c s g h)

share_of_none : (e c s t : ℕ) → e ≡ 0 → share e c s t ≡ 0
share_of_none e c s t z = rw (z, zero-mul, zero-mul, sub_self)

pub within_limits : (m x : ℕ) (final : Bool) (l : Run TextUnit) → x + width l ≤ m → (s g : Gap) →
    GapAt l.first l.rest s g →
    WithinLimits (amounts_of m x final l) (gaps_of l) s g
within_limits m x final l h s g at =
    let c = gaps_of l in
    let e = amounts_of m x final l in
    let t = taken m x final l h in
    let a = share_limit e.shrink₁ c.shrink₁ s.shrink₁ g.shrink₁ t.shrink₁ in
    let b = share_limit e.shrink₂ c.shrink₂ s.shrink₂ g.shrink₂ t.shrink₂ in
    let d = share_limit e.stretch₁ c.stretch₁ s.stretch₁ g.stretch₁ t.stretch₁ in
    record {
      shrink₁ = a;
      shrink₂ = b;
      stretch₁ = d;
      stretch₂ = λ z. rw (z, add-zero, sub_self);
      low = not_below g.space _ _ _ _ _ _ a b;
      high =
          λ z. not_above g.space _ _ _ _ _ d
          (share_of_none e.stretch₂ c.stretch₂ s.stretch₂ (s.stretch₂ + g.stretch₂) z);
    }

pub first_stage_full : (m x : ℕ) (final : Bool) (l : Run TextUnit) → x + width l ≤ m → (s g : Gap) →
    GapAt l.first l.rest s g →
    FirstStageFull (amounts_of m x final l) (gaps_of l) s g
first_stage_full m x final l h s g at =
    let t = taken m x final l h in
    let n = gaps_within at in
    record {
      shrink = λ p. rw (t.full_shrink p) (full_share (gaps_of l).shrink₁ s.shrink₁ g.shrink₁ n.0);
      stretch = λ p. rw (t.full_stretch p) (full_share (gaps_of l).stretch₁ s.stretch₁ g.stretch₁ n.1);
    }
