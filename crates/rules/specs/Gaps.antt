-- docs/RULES.md, "How far a gap gives way": the gap between two sides, and what it gives and takes at each stage.
--
--   L, R             the left and the right side
--   stage            shrink stage 1 and 2, 詰める処理; stretch stage 1 and 2, 空ける処理
--   capacity         how far a gap goes at a stage; at stretch stage 2, which has no limit, its weight
--   least            a gap with both shrink stages used in full
--
-- Assumes nothing.
use Rattle.std.specs.Prelude.{ℕ, ◌+◌, ◌-◌, cond, not, ◌&&◌, eqb}
use Rattle.rules.specs.Space.{Rule, rule_a, rule_b, rule_c, rule_d, rule_e, rule_f, rule_g, rule_h, rule_i}
use Rattle.rules.specs.Space.{rule_j, rule_k}
use Rattle.rules.specs.Space.{Fraction, no_part, eighth, quarter, half, Space, spaced, measured, rule_of, space_of}
use Rattle.rules.specs.Sides.{Side, forbidden}

-- how a gap gives way: at shrink stage 1, at shrink stage 2 and stretch stage 1, or at neither
pub data Flexibility : Type 0 where
  punctuation japanese_western fixed : Flexibility

-- "Shrink stage 1: non-zero gaps of f, of h, and of g with L=7 .. Shrink stage 2: gaps of i and j .. Stretch stage 1:
-- gaps of i and j"
unfoldable pub flexibility : Rule → ℕ → Flexibility
flexibility rule_a L = fixed
flexibility rule_b L = fixed
flexibility rule_c L = fixed
flexibility rule_d L = fixed
flexibility rule_e L = fixed
flexibility rule_f L = punctuation
flexibility rule_g L = cond (eqb L 7) punctuation fixed
flexibility rule_h L = punctuation
flexibility rule_i L = japanese_western
flexibility rule_j L = japanese_western
flexibility rule_k L = fixed

-- a space brought to another fraction "of the same size"; what is zero stays so
abbrev pub fraction_of : Fraction → Fraction → Fraction
fraction_of f no_part = no_part
fraction_of f eighth = f
fraction_of f quarter = f
fraction_of f half = f

abbrev pub with_fraction : Fraction → Space → Space
with_fraction f p = spaced (fraction_of f p.left) (fraction_of f p.right)

-- a gap: its space and its capacity at each of the four stages
pub record Gap : Type 0 where
  pub space : ℕ
  pub shrink₁ : ℕ
  pub shrink₂ : ℕ
  pub stretch₁ : ℕ
  pub stretch₂ : ℕ

-- gaps added up, field by field
abbrev pub plus : Gap → Gap → Gap
plus g h =
    record {
      space = g.space + h.space;
      shrink₁ = g.shrink₁ + h.shrink₁;
      shrink₂ = g.shrink₂ + h.shrink₂;
      stretch₁ = g.stretch₁ + h.stretch₁;
      stretch₂ = g.stretch₂ + h.stretch₂;
    }

abbrev pub no_gaps : Gap
no_gaps = record { space = 0; shrink₁ = 0; shrink₂ = 0; stretch₁ = 0; stretch₂ = 0 }

-- of punctuation: "down to 1/4 of the same size"; between Japanese and Western: "down to 1/8" and "up to 1/2". "Other
-- gaps never shrink."
unfoldable pub gap_by : Flexibility → Space → ℕ → ℕ → ℕ → Gap
gap_by punctuation p left right w =
    let s = measured p left right in
    record {
      space = s;
      shrink₁ = s - measured (with_fraction quarter p) left right;
      shrink₂ = 0;
      stretch₁ = 0;
      stretch₂ = w;
    }
gap_by japanese_western p left right w =
    let s = measured p left right in
    record {
      space = s;
      shrink₁ = 0;
      shrink₂ = s - measured (with_fraction eighth p) left right;
      stretch₁ = measured (with_fraction half p) left right - s;
      stretch₂ = w;
    }
gap_by fixed p left right w =
    record { space = measured p left right; shrink₁ = 0; shrink₂ = 0; stretch₁ = 0; stretch₂ = w }

-- "Stretch stage 2: every permitted-break gap with class 5 on neither side, weight 1 each, no limit."
unfoldable pub weight : Side → Side → ℕ
weight L R = cond (not (forbidden L R) && not (eqb L.class 5) && not (eqb R.class 5)) 1 0

unfoldable pub gap_of : Side → Side → Gap
gap_of L R =
    gap_by (flexibility (rule_of L.class R.class) L.class) (space_of L.class R.class) L.size R.size
    (weight L R)

-- what both shrink stages, in full, leave of a gap
abbrev pub least : Gap → ℕ
least g = g.space - g.shrink₁ - g.shrink₂
