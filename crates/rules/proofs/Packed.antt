-- The laws of a gap in one word: it is linear, and its fields are read back within their bounds. Assumes nothing.
use Rattle.std.proofs.Common.{◌≡◌, ap, sym, ◌∙◌, ℕ, ◌+◌, ◌*◌, ◌/◌, ◌%◌, ◌^◌, ◌≤◌, ◌<◌, arith}
use Rattle.rules.specs.Gaps.{Gap, least, plus}
use Rattle.rules.specs.Packed.{packed, least_in, unpacked, packed_unpacked, Packs, AtMost}

-- one addition sums the space and all capacities
pub packed_plus : (g h : Gap) → Packs g → Packs h → packed g + packed h ≡ packed (plus g h)
unfolding packed
packed_plus g h p q = omega arith

pub plus_packs : (g h : Gap) → Packs g → Packs h → Packs (plus g h)
plus_packs g h p q = omega arith

-- what fewer gaps come to
pub at_most_255 : {n : ℕ} {g : Gap} → AtMost n g → n ≤ 255 → AtMost 255 g
at_most_255 a h = omega arith

pub unpacked_packs : (w : ℕ) → Packs (unpacked w)
unfolding unpacked
unpacked_packs w = omega arith

pub least_unpacked : (w : ℕ) → least_in w ≡ least (unpacked w)
unfolding unpacked
least_unpacked w = omega arith

-- a field and what stands to its left
least_field : (a b : ℕ) → a < 1048576 → ((a + 1048576 * b) % 1048576 ≡ a) × ((a + 1048576 * b) / 1048576 ≡ b)
least_field a b h = omega arith

shrink_field : (a b : ℕ) → a < 262144 → ((a + 262144 * b) % 262144 ≡ a) × ((a + 262144 * b) / 262144 ≡ b)
shrink_field a b h = omega arith

-- and a gap that 255 can add up to is read back
pub unpacked_packed : (g : Gap) → Packs g → AtMost 255 g → unpacked (packed g) ≡ g
unfolding packed unpacked
unpacked_packed g p b =
    let left₂ = g.shrink₂ + 262144 * g.stretch₂ in
    let left₁ = g.shrink₁ + 262144 * left₂ in
    let f = least_field (least g) left₁ (omega arith) in
    let f₁ = shrink_field g.shrink₁ left₂ (omega arith) in
    let f₂ = shrink_field g.shrink₂ g.stretch₂ (omega arith) in
    let e : least g + g.shrink₁ + g.shrink₂ ≡ g.space = omega arith in
    rw (f.0, f.1, f₁.0, f₁.1, f₂.0, f₂.1, e, ← p.twice)

-- words add up as gaps do
pub unpacked_plus : (v w : ℕ) → AtMost 255 (plus (unpacked v) (unpacked w)) →
    unpacked (v + w) ≡ plus (unpacked v) (unpacked w)
unpacked_plus v w b =
    let p = unpacked_packs v in
    let q = unpacked_packs w in
    let e : v + w ≡ packed (plus (unpacked v) (unpacked w)) =
    sym (λ t. packed_unpacked v t + packed_unpacked w t) ∙ packed_plus (unpacked v) (unpacked w) p q in
    ap unpacked e ∙ unpacked_packed (plus (unpacked v) (unpacked w)) (plus_packs (unpacked v) (unpacked w) p q) b

pub sum_fits : (v w : ℕ) → AtMost 255 (plus (unpacked v) (unpacked w)) → v + w < 2 ^ 64
unfolding unpacked
sum_fits v w b = omega arith
