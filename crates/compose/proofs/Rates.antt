-- Shares by rates: a rate, its product with a capacity, and the share that it gives. Assumes nothing.
use Rattle.std.proofs.Common.{◌≡◌, ℕ, zero, suc, ◌+◌, ◌*◌, ◌/◌, ◌^◌, ◌≤◌, ◌<◌, arith, mul-zero, div-mul-le_self}
use Rattle.std.proofs.Common.{mul-le-mul, mul-le-mul_left, mul-le-mul_right, mul_comm, le_of_mul-le-mul_right}
use Rattle.std.proofs.Common.{lt_of_mul-lt-mul_right}
use Rattle.std.proofs.Math.Nat.{zero-div, lt-div-mul-add, div-eq_of_lt-le, div-le_of_le-mul}
use Rattle.compose.specs.Limits.{parts, largest_amount, largest_capacity}
use Rattle.compose.specs.Rates.{rate_of}

-- and so does its product with a part of the capacity
pub product_fits : (e s c : ℕ) → e ≤ largest_amount → s ≤ c → c ≤ largest_capacity → rate_of e c * s < 2 ^ 64
unfolding rate_of
product_fits e s c h k l =
    omega (arith, div-mul-le_self (e * parts) c, mul-le-mul_left (e * parts / c) k)

-- a cumulative share up to some of the gaps is no more than the amount; and no more than they can give, where all can
-- give it
pub share_within : (e s c : ℕ) → s ≤ c → e * s / c ≤ e
share_within e s c h = div-le_of_le-mul c (rw (mul_comm c e) (mul-le-mul_left e h))

pub share_cap : (e s c : ℕ) → e ≤ c → e * s / c ≤ s
share_cap e s c h = div-le_of_le-mul c (mul-le-mul_right s h)

-- rounding the rate up by less than a part changes no share of capacities up to 2^20
pub rate_share : (e s c : ℕ) → s ≤ c → c ≤ largest_capacity → rate_of e c * s / parts ≡ e * s / c
unfolding rate_of
rate_share e s zero h k = let z : s ≡ zero = omega arith in simp (z, mul-zero, zero-div)
rate_share e s (suc d) h k =
    let c = suc d in
    let a = e * parts / c in
    let pos : zero < c = omega arith in
    let above : e * parts < a * c + c = lt-div-mul-add pos in
    let next : e * s < e * s / c * c + c = lt-div-mul-add pos in
    let few : s ≤ largest_capacity = omega arith in
    let small : s * c ≤ largest_capacity * largest_capacity = mul-le-mul few k in
    let low : a * c * s ≤ e * parts * s = mul-le-mul_right s (div-mul-le_self _ c) in
    let high : e * parts * s ≤ (a * c + c) * s = mul-le-mul_right s (omega arith) in
    div-eq_of_lt-le parts
    (le_of_mul-le-mul_right {k = c} (omega (arith, div-mul-le_self (e * s) c, high)) pos)
    (lt_of_mul-lt-mul_right c (omega (arith, next, small, low)))
