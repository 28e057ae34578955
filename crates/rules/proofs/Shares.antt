-- Shares by cumulative floors: a share is at most its capacity, and the shares of a line add up. Assumes nothing.
use Rattle.std.proofs.Common.{◌≡◌, refl, ℕ, zero, suc, ◌+◌, ◌*◌, ◌/◌, ◌≤◌, ◌<◌, arith, le_refl, le_trans}
use Rattle.std.proofs.Common.{div-mul-le_self, le-div_iff_mul-le, mul-le-mul_left, mul-add, mul_comm, mul-zero, List}
use Rattle.std.proofs.Common.{[], ◌∷◌}
use Rattle.std.proofs.Math.Nat.{div-zero, zero-div, add-mul-div_right, mul-div_left, mul-div_right}
use Rattle.rules.specs.Groups.{TextUnit, advance}
use Rattle.rules.specs.Gaps.{Gap, plus}
use Rattle.rules.specs.Breaks.{gap}
use Rattle.rules.specs.Adjustment.{Amounts, share, adjusted, totals, unit_advances, ending}
use Rattle.rules.proofs.Widths.{gives}

pub div_mono : (a b c : ℕ) → a ≤ b → a / c ≤ b / c
div_mono a b zero h = rw (div-zero, div-zero) (le_refl _)
div_mono a b (suc c) h = (le-div_iff_mul-le {k = suc c} (omega arith)).1 (le_trans (div-mul-le_self a (suc c)) h)

-- a share is never negative
pub share_up : (e c s g : ℕ) → e * s / c ≤ e * (s + g) / c
share_up e c s g = div_mono (e * s) (e * (s + g)) c (mul-le-mul_left e (omega arith))

-- and, of an amount that the stage can take, at most the capacity
pub share_cap : (e c s g : ℕ) → e ≤ c → e * (s + g) / c ≤ e * s / c + g
share_cap e zero s g h = rw (div-zero, div-zero) (omega arith)
share_cap e (suc c) s g h =
    let a : e * (s + g) ≤ e * s + g * suc c = omega (arith, mul-add e s g, mul-le-mul_left g h, mul_comm g e) in
    let b : (e * s + g * suc c) / suc c ≡ e * s / suc c + g = add-mul-div_right (e * s) g (omega arith) in
    omega (arith, div_mono (e * (s + g)) (e * s + g * suc c) (suc c) a, b)

-- all of an amount that a stage can take is shared out
pub shared_out : (e c : ℕ) → e ≤ c → e * c / c ≡ e
shared_out zero zero h = refl
shared_out (suc e) zero h = omega arith
shared_out e (suc c) h = mul-div_left e (omega arith)

-- a full stage gives each gap its capacity
pub full_share : (c s g : ℕ) → s + g ≤ c → share c c s (s + g) ≡ g
full_share zero s g h = omega (arith, div-zero (zero * (s + g)), div-zero (zero * s))
full_share (suc c) s g h =
    let pos : 0 < suc c = omega arith in
    omega (arith, mul-div_right (s + g) pos, mul-div_right s pos)

pub none_yet : (e c : ℕ) → e * 0 / c ≡ 0
none_yet e c = rw (mul-zero, zero-div)

module _ (e : Amounts) (c t : Gap) (p : e.shrink₁ ≤ c.shrink₁) (q : e.shrink₂ ≤ c.shrink₂) where
  -- the end x of a line, in sums: t is what all the gaps add up to, s what those before the unit u do
  pub ending_sum : (s : Gap) (x : ℕ) (u : TextUnit) (us : List TextUnit) →
      t.shrink₁ ≡ s.shrink₁ + (totals u us).shrink₁ →
      t.shrink₂ ≡ s.shrink₂ + (totals u us).shrink₂ →
      t.stretch₁ ≡ s.stretch₁ + (totals u us).stretch₁ →
      t.stretch₂ ≡ s.stretch₂ + (totals u us).stretch₂ →
      ending e c s x u us + e.shrink₁ * t.shrink₁ / c.shrink₁ + e.shrink₂ * t.shrink₂ / c.shrink₂
      + e.stretch₁ * s.stretch₁ / c.stretch₁ + e.stretch₂ * s.stretch₂ / c.stretch₂
      ≡ x + unit_advances (u ∷ us) + (totals u us).space
      + e.shrink₁ * s.shrink₁ / c.shrink₁ + e.shrink₂ * s.shrink₂ / c.shrink₂
      + e.stretch₁ * t.stretch₁ / c.stretch₁ + e.stretch₂ * t.stretch₂ / c.stretch₂
  unfolding ending totals unit_advances
  ending_sum s x u [] h₁ h₂ h₃ h₄ =
      let a₁ : t.shrink₁ ≡ s.shrink₁ = omega arith in
      let a₂ : t.shrink₂ ≡ s.shrink₂ = omega arith in
      let a₃ : t.stretch₁ ≡ s.stretch₁ = omega arith in
      let a₄ : t.stretch₂ ≡ s.stretch₂ = omega arith in
      rw (a₁, a₂, a₃, a₄) (omega arith)
  ending_sum s x u (v ∷ us) h₁ h₂ h₃ h₄ =
      let g = gap u v in
      omega (
        arith,
        ending_sum (plus s g) (x + advance u + adjusted e c s g) v us (omega arith) (omega arith) (omega arith)
            (omega arith),
        share_up e.shrink₁ c.shrink₁ s.shrink₁ g.shrink₁,
        share_cap e.shrink₁ c.shrink₁ s.shrink₁ g.shrink₁ p,
        share_up e.shrink₂ c.shrink₂ s.shrink₂ g.shrink₂,
        share_cap e.shrink₂ c.shrink₂ s.shrink₂ g.shrink₂ q,
        share_up e.stretch₁ c.stretch₁ s.stretch₁ g.stretch₁,
        share_up e.stretch₂ c.stretch₂ s.stretch₂ g.stretch₂,
        gives u v,
      )
