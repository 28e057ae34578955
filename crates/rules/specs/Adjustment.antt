-- docs/RULES.md, "How a line is adjusted": the adjustment of each line, its kind, its end x and the x of its records.
--
--   natural width    a line's advances and spaces, as they are
--   amount           E: what a stage takes from a line's gaps, or adds to them
--   total            C: what the capacities of a stage add up to over a line; S_i: up to gap i, its own included
--   share            of a gap: what it gets of an amount; the cumulative share of gap i: what the gaps up to it get
--   excess           how much wider than the measure a line is; shortfall: how much narrower
--   kind             1 flush, 行頭行末そろえ; 2 short, a line that cannot be stretched; 3 final, 段落の最終行
--
-- Assumes nothing.
use Rattle.std.specs.Prelude.{ℕ, ◌+◌, ◌*◌, ◌-◌, ◌/◌, min, Bool, true, false, cond, ◌&&◌}
use Rattle.std.specs.Prelude.{List, [], ◌∷◌, ◌++◌, map, ltb, eqb}
use Rattle.rules.specs.Basics.{Run, whole}
use Rattle.rules.specs.Groups.{TextUnit, advance, counts, base_offsets}
use Rattle.rules.specs.Gaps.{Gap, plus, no_gaps}
use Rattle.rules.specs.Breaks.{gap, runs, breaking}

unfoldable pub totals : TextUnit → List TextUnit → Gap
totals u [] = no_gaps
totals u (v ∷ us) = plus (gap u v) (totals v us)

-- what a line's gaps add up to
abbrev pub gaps_of : Run TextUnit → Gap
gaps_of l = totals l.first l.rest

unfoldable pub unit_advances : List TextUnit → ℕ
unit_advances [] = 0
unit_advances (u ∷ us) = advance u + unit_advances us

-- the end of a line that starts at x and is not adjusted
abbrev pub natural : ℕ → Run TextUnit → ℕ
natural x l = x + unit_advances (whole l) + (gaps_of l).space

-- the amounts of a line's four stages
pub record Amounts : Type 0 where
  pub shrink₁ : ℕ
  pub shrink₂ : ℕ
  pub stretch₁ : ℕ
  pub stretch₂ : ℕ

-- of a line that is wider than the measure by an excess, or narrower by a shortfall: "A stage is filled before the next
-- begins."
unfoldable pub amounts : ℕ → ℕ → Gap → Amounts
amounts excess shortfall c =
    record {
      shrink₁ = min excess c.shrink₁;
      shrink₂ = excess - min excess c.shrink₁;
      stretch₁ = min shortfall c.stretch₁;
      stretch₂ = shortfall - min shortfall c.stretch₁;
    }

-- "A line wider than the measure is shrunk to it, final or not. A non-final narrower line is stretched to it. .. The
-- final line is never stretched"
unfoldable pub amounts_of : ℕ → ℕ → Bool → Run TextUnit → Amounts
amounts_of m x final l =
    let n = natural x l in
    amounts (n - m) (cond final 0 (m - n)) (gaps_of l)

-- "An amount E within a stage is shared by cumulative capacity (or weight) S over total C: gap i gets
-- floor(E·S_i/C) − floor(E-as-S_(i−1)/C). A stage with C=0 is skipped": a quotient by 0 is 0.
-- What the gaps up to one get together
abbrev pub cumulative_share : ℕ → ℕ → ℕ → ℕ
cumulative_share e c s = e * s / c

-- and what the gap itself gets: s is S_(i−1) and t is S_i
abbrev pub share : ℕ → ℕ → ℕ → ℕ → ℕ
share e c s t = cumulative_share e c t - cumulative_share e c s

-- a gap g of a line whose gaps add up to c, after gaps that add up to s: its space once adjusted
abbrev pub adjusted : Amounts → Gap → Gap → Gap → ℕ
adjusted e c s g =
    (g.space
    - share e.shrink₁ c.shrink₁ s.shrink₁ (s.shrink₁ + g.shrink₁)
    - share e.shrink₂ c.shrink₂ s.shrink₂ (s.shrink₂ + g.shrink₂))
    + share e.stretch₁ c.stretch₁ s.stretch₁ (s.stretch₁ + g.stretch₁)
    + share e.stretch₂ c.stretch₂ s.stretch₂ (s.stretch₂ + g.stretch₂)

-- the x of each record, from a unit u at x on: "The x of a grouped record is its group's x plus the record's offset
-- in the base row."
unfoldable pub placed : Amounts → Gap → Gap → ℕ → TextUnit → List TextUnit → List ℕ
placed e c s x u [] = map (λ o. x + o) (base_offsets u)
placed e c s x u (v ∷ us) =
    let g = gap u v in
    map (λ o. x + o) (base_offsets u) ++ placed e c (plus s g) (x + advance u + adjusted e c s g) v us

-- "its end x is the last unit's x plus that unit's advance"
unfoldable pub ending : Amounts → Gap → Gap → ℕ → TextUnit → List TextUnit → ℕ
ending e c s x u [] = x + advance u
ending e c s x u (v ∷ us) =
    let g = gap u v in
    ending e c (plus s g) (x + advance u + adjusted e c s g) v us

-- "A non-final line below the measure after stage 1 and without a stage 2 gap is short. The final line .. is kind 3."
unfoldable pub kind_of : Bool → Amounts → Gap → ℕ
kind_of true e c = 3
kind_of false e c = cond (ltb 0 e.stretch₂ && eqb c.stretch₂ 0) 2 1

-- a line: the x of each record, the end x, the kind, and the number of its records
pub record Line : Type 0 where
  pub xs : List ℕ
  pub end : ℕ
  pub kind : ℕ
  pub count : ℕ

unfoldable pub line_of : ℕ → ℕ → Bool → Run TextUnit → Line
line_of m x final l =
    let u = l.first in
    let us = l.rest in
    let c = totals u us in
    let e = amounts_of m x final l in
    record {
      xs = placed e c no_gaps x u us;
      end = ending e c no_gaps x u us;
      kind = kind_of final e c;
      count = counts (whole l);
    }

abbrev pub is_empty : {A : Type 0} → List A → Bool
is_empty [] = true
is_empty (a ∷ bs) = false

-- "A line's x starts at the indent on line 0 and at 0 elsewhere"
unfoldable pub lines_of : ℕ → ℕ → List (Run TextUnit) → List Line
lines_of m x [] = []
lines_of m x (l ∷ ls) = line_of m x (is_empty ls) l ∷ lines_of m 0 ls

-- the lines of a paragraph of measure m and indent x; "No records, no lines."
unfoldable pub compose : ℕ → ℕ → List TextUnit → List Line
compose m x us = lines_of m x (breaking m x (runs us))
