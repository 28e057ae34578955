-- Where a line ends, by its kind. Assumes nothing.
use Rattle.std.proofs.Common.{◌≡◌, ℕ, ◌+◌, ◌*◌, ◌-◌, ◌/◌, ◌≤◌, ◌<◌, arith, zero-mul, Bool, true, false, cond, inl}
use Rattle.std.proofs.Common.{inr, ltb, eqb, ltb-true, ltb-false, eqb-true}
use Rattle.std.proofs.Math.Nat.{mul-div_left, div-zero, zero-div}
use borrow.Author.Tests.{eqb-false}
use Rattle.rules.specs.Basics.{Run}
use Rattle.rules.specs.Groups.{TextUnit}
use Rattle.rules.specs.Gaps.{Gap, no_gaps}
use Rattle.rules.specs.Breaks.{width}
use Rattle.rules.specs.Adjustment.{Amounts, amounts, amounts_of, gaps_of, natural, kind_of, line_of}
use Rattle.std.proofs.lemmas.Bool.{cases_Bool}
use Rattle.rules.proofs.Widths.{natural_smallest}
use Rattle.rules.proofs.Shares.{shared_out, none_yet, ending_sum}

-- how much narrower than its measure a line is: a final line is taken as it is
abbrev shortfall : ℕ → ℕ → Bool → Run TextUnit → ℕ
shortfall m x final l = cond final 0 (m - natural x l)

-- the amounts of a line that fits are what the stages can take
pub record Taken (m x : ℕ) (final : Bool) (l : Run TextUnit) (e : Amounts) (c : Gap) : Type 0 where
  pub shrink₁ : e.shrink₁ ≤ c.shrink₁
  pub shrink₂ : e.shrink₂ ≤ c.shrink₂
  pub stretch₁ : e.stretch₁ ≤ c.stretch₁
  pub shrunk : e.shrink₁ + e.shrink₂ ≡ natural x l - m
  pub stretched : e.stretch₁ + e.stretch₂ ≡ shortfall m x final l
  pub full_shrink : 0 < e.shrink₂ → e.shrink₁ ≡ c.shrink₁
  pub full_stretch : 0 < e.stretch₂ → e.stretch₁ ≡ c.stretch₁

pub taken : (m x : ℕ) (final : Bool) (l : Run TextUnit) → x + width l ≤ m →
    Taken m x final l (amounts_of m x final l) (gaps_of l)
unfolding amounts_of amounts
taken m x final l h = omega (arith, natural_smallest l.first l.rest)

-- what is shared out at stretch stage 2
abbrev spread : Amounts → Gap → ℕ
spread e c = e.stretch₂ * c.stretch₂ / c.stretch₂

-- the end of a line that fits
end_law : (m x : ℕ) (final : Bool) (l : Run TextUnit) → x + width l ≤ m →
    (line_of m x final l).end + (natural x l - m) ≡ natural x l + (amounts_of m x final l).stretch₁ + spread
    (amounts_of m x final l) (gaps_of l)
unfolding line_of
end_law m x final l h =
    let c = gaps_of l in
    let e = amounts_of m x final l in
    let t = taken m x final l h in
    omega (
      arith,
      ending_sum e c c t.shrink₁ t.shrink₂ no_gaps x l.first l.rest (omega arith) (omega arith)
          (omega arith) (omega arith),
      shared_out e.shrink₁ c.shrink₁ t.shrink₁,
      shared_out e.shrink₂ c.shrink₂ t.shrink₂,
      shared_out e.stretch₁ c.stretch₁ t.stretch₁,
      none_yet e.shrink₁ c.shrink₁,
      none_yet e.shrink₂ c.shrink₂,
      none_yet e.stretch₁ c.stretch₁,
      none_yet e.stretch₂ c.stretch₂,
      t.shrunk,
    )

spread_all : (e : Amounts) (c : Gap) → (c.stretch₂ ≡ 0 → ⊥) → spread e c ≡ e.stretch₂
spread_all e c h = mul-div_left e.stretch₂ (omega arith)

spread_none : (e : Amounts) (c : Gap) → c.stretch₂ ≡ 0 → spread e c ≡ 0
spread_none e c h = rw (h, div-zero)

spread_zero : (e : Amounts) (c : Gap) → e.stretch₂ ≡ 0 → spread e c ≡ 0
spread_zero e c h = rw (h, zero-mul, zero-div)

spread_within : (e : Amounts) (c : Gap) → spread e c ≤ e.stretch₂
spread_within e c =
    elim (cases_Bool (eqb c.stretch₂ 0)) [
      | inl q ↦ omega (arith, spread_none e c (eqb-true c.stretch₂ 0 q))
      | inr q ↦ omega (arith, spread_all e c (eqb-false c.stretch₂ 0 q))
    ]

pub at_most : (b : Bool) (n : ℕ) → cond b 0 n ≤ n
at_most true n = omega arith
at_most false n = omega arith

-- no line ends past the measure
pub ends_within : (m x : ℕ) (final : Bool) (l : Run TextUnit) → x + width l ≤ m → (line_of m x final l).end ≤ m
ends_within m x final l h =
    let t = taken m x final l h in
    let n : shortfall m x final l ≤ m - natural x l = at_most final (m - natural x l) in
    omega (arith, end_law m x final l h, spread_within (amounts_of m x final l) (gaps_of l), t.stretched)

-- a line wider than the measure ends at it, final or not
pub wide_ends : (m x : ℕ) (final : Bool) (l : Run TextUnit) → x + width l ≤ m → m ≤ natural x l →
    (line_of m x final l).end ≡ m
wide_ends m x final l h n =
    let t = taken m x final l h in
    let z = at_most final (m - natural x l) in
    let s : (amounts_of m x final l).stretch₂ ≡ 0 = omega (arith, t.stretched) in
    omega (arith, end_law m x final l h, spread_zero (amounts_of m x final l) (gaps_of l) s, t.stretched)

-- a final line that is not wider ends where it naturally does
pub final_ends : (m x : ℕ) (l : Run TextUnit) → x + width l ≤ m → natural x l ≤ m →
    (line_of m x true l).end ≡ natural x l
final_ends m x l h n =
    let t = taken m x true l h in
    let s : (amounts_of m x true l).stretch₂ ≡ 0 = omega (arith, t.stretched) in
    omega (arith, end_law m x true l h, spread_zero (amounts_of m x true l) (gaps_of l) s, t.stretched)

-- a line of kind 1, flush, ends at the measure; one of kind 2, short, ends below it and has no gap of stretch stage 2
ends_by_kind : (m x : ℕ) (final : Bool) (l : Run TextUnit) → x + width l ≤ m → let k = line_of m x final l in
    (k.kind ≡ 1 → k.end ≡ m) × (k.kind ≡ 2 → (k.end < m) × ((gaps_of l).stretch₂ ≡ 0))
unfolding line_of kind_of
ends_by_kind m x true l h = omega arith
ends_by_kind m x false l h =
    let e = amounts_of m x false l in
    let t = taken m x false l h in
    let end = end_law m x false l h in
    elim (cases_Bool (ltb 0 e.stretch₂)) [
      | inl p ↦
          elim (cases_Bool (eqb (gaps_of l).stretch₂ 0)) [
            | inl q ↦
                let z = eqb-true _ _ q in
                rw (p, q) (omega (arith, spread_none e (gaps_of l) z, ltb-true 0 e.stretch₂ p))
            | inr q ↦ rw (p, q) (omega (arith, spread_all e (gaps_of l) (eqb-false _ _ q)))
          ]
      | inr p ↦
          let s : e.stretch₂ ≡ 0 = omega (arith, ltb-false 0 e.stretch₂ p) in
          rw p (omega (arith, spread_zero e (gaps_of l) s))
    ]

pub flush_ends : (m x : ℕ) (final : Bool) (l : Run TextUnit) → x + width l ≤ m → (line_of m x final l).kind ≡ 1 →
    (line_of m x final l).end ≡ m
flush_ends m x final l h = (ends_by_kind m x final l h).0

pub short_ends : (m x : ℕ) (final : Bool) (l : Run TextUnit) → x + width l ≤ m → (line_of m x final l).kind ≡ 2 →
    ((line_of m x final l).end < m) × ((gaps_of l).stretch₂ ≡ 0)
short_ends m x final l h = (ends_by_kind m x final l h).1
