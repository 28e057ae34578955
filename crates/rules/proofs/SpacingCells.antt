-- The spacing table: that the entry of each cell agrees with the rules is computed over all 324 cells, and turned into
-- the rule at each pair of classes. Assumes nothing.
use Rattle.std.proofs.Common.{◌≡◌, refl, ap, sym, ◌∙◌, ℕ, zero, suc, ◌%◌, ◌<◌, arith, Bool, true, ◌&&◌, [], map, inl}
use Rattle.std.proofs.Common.{inr, ltb, eqb, get_or, ltb-true, eqb-true}
use Rattle.std.proofs.Math.Bool.{and-eq-true_iff}
use Rattle.rules.specs.Records.{classes, class_ok, index_in, class_index}
use Rattle.rules.specs.Space.{Fraction, no_part, eighth, quarter, half, Space, spaced, measured, rule_of, space_of}
use Rattle.rules.specs.Gaps.{Flexibility, punctuation, japanese_western, fixed, flexibility, gap_by}
use Rattle.rules.specs.Spacing.{Entry, solid, named, gap_set, eighths, flexibility_number, same_space, agrees}
use Rattle.rules.specs.Spacing.{cell_of}
use Rattle.rules.specs.Spacing.{joint_cell, spacing_table, joint_in, cell_in}
use Rattle.rules.specs.Computed.{computed}
use Rattle.std.proofs.lemmas.Bool.{cases_Bool}
use Rattle.rules.proofs.ComputedTables.{all_pairs, pairs_at, map_at}

-- the test -----------------------------------------------------------------------------------------------------------

-- the cell of two classes is one of ten entries, which agrees with the rules
abbrev right : ℕ → ℕ → Bool
right L R = ltb (cell_of L R) 10 && agrees (named (cell_of L R)) L R

cells_agree : all_pairs right classes ≡ true
unfolding computed
cells_agree = refl

-- what it says of two classes ----------------------------------------------------------------------------------------

-- a fraction is told by its eighths, and how a gap gives way by its stage
counted : ℕ → Fraction
counted zero = no_part
counted (suc zero) = eighth
counted (suc (suc zero)) = quarter
counted (suc (suc (suc n))) = half

counted_eighths : (f : Fraction) → counted (eighths f) ≡ f
unfolding counted
counted_eighths no_part = refl
counted_eighths eighth = refl
counted_eighths quarter = refl
counted_eighths half = refl

staged : ℕ → Flexibility
staged zero = fixed
staged (suc zero) = punctuation
staged (suc (suc n)) = japanese_western

staged_stage : (f : Flexibility) → staged (flexibility_number f) ≡ f
unfolding staged
staged_stage punctuation = refl
staged_stage japanese_western = refl
staged_stage fixed = refl

same_fraction : (f g : Fraction) → eqb (eighths f) (eighths g) ≡ true → f ≡ g
same_fraction f g e = sym (counted_eighths f) ∙ ap counted (eqb-true (eighths f) (eighths g) e) ∙ counted_eighths g

same_space_is : (p q : Space) → same_space p q ≡ true → p ≡ q
same_space_is p q e =
    let both = (and-eq-true_iff (eqb (eighths p.left) (eighths q.left)) _).0 e in
    let l = same_fraction p.left q.left both.0 in
    let r = same_fraction p.right q.right both.1 in
    λ t. spaced (l t) (r t)

-- where no space is set, nothing gives way
nothing_gives : (f g : Flexibility) (l r w : ℕ) → gap_by f solid.space l r w ≡ gap_by g solid.space l r w
unfolding gap_by measured
nothing_gives f g l r w = alike f ∙ sym (alike g)
  where
    alike : (f : Flexibility) → gap_by f solid.space l r w ≡ gap_by fixed solid.space l r w
    alike punctuation = refl
    alike japanese_western = refl
    alike fixed = refl

-- what an entry that agrees sets is what the rules set
pub agrees_gap : (e : Entry) (L R : ℕ) → agrees e L R ≡ true → (l r w : ℕ) →
    gap_set e l r w ≡ gap_by (flexibility (rule_of L R) L) (space_of L R) l r w
unfolding agrees
agrees_gap e L R h l r w =
    let x = flexibility (rule_of L R) L in
    let both = (and-eq-true_iff (same_space e.space (space_of L R)) _).0 h in
    let p = same_space_is e.space (space_of L R) both.0 in
    elim (cases_Bool (same_space solid.space (space_of L R))) [
      | inl z ↦
          let q = same_space_is solid.space (space_of L R) z in
          ap (λ s. gap_by e.gives s l r w) (p ∙ sym q) ∙ nothing_gives e.gives x l r w
          ∙ ap (λ s. gap_by x s l r w) q
      | inr z ↦
          let g : eqb (flexibility_number e.gives) (flexibility_number x) ≡ true = rw z at both.1 in
          let f : e.gives ≡ x =
          sym (staged_stage e.gives)
          ∙ ap staged (eqb-true (flexibility_number e.gives) (flexibility_number x) g) ∙ staged_stage x in
          λ t. gap_by (f t) (p t) l r w
    ]

module _ (L R : ℕ) (l : class_ok L ≡ true) (r : class_ok R ≡ true) where
  right_at : right L R ≡ true
  unfolding class_ok
  right_at = pairs_at right classes cells_agree L R l r

  pub cell_small : cell_of L R < 10
  cell_small = ltb-true (cell_of L R) 10 ((and-eq-true_iff (ltb (cell_of L R) 10) _).0 right_at).0

  -- the table's cell, the number of the entry in it, and the gap that this sets
  pub cell_at : joint_in spacing_table L R ≡ joint_cell L R
  unfolding class_ok spacing_table class_index
  cell_at =
      ap (λ ks. get_or ks (index_in R classes) 0) (map_at (λ K. map (λ S. joint_cell K S) classes) [] classes L l)
      ∙ map_at (λ S. joint_cell L S) 0 classes R r

  pub cell_entry : joint_cell L R % 16 ≡ cell_of L R
  unfolding joint_cell
  cell_entry = omega (arith, cell_small)

  pub cell_agrees : agrees (named (cell_of L R)) L R ≡ true
  cell_agrees = ((and-eq-true_iff (ltb (cell_of L R) 10) _).0 right_at).1

  pub cell_gap : (a b w : ℕ) →
      gap_set (named (cell_of L R)) a b w ≡ gap_by (flexibility (rule_of L R) L) (space_of L R) a b w
  cell_gap a b w = agrees_gap (named (cell_of L R)) L R cell_agrees a b w

  pub table_gap : (a b w : ℕ) →
      gap_set (named (cell_in spacing_table L R)) a b w ≡ gap_by (flexibility (rule_of L R) L) (space_of L R) a b w
  table_gap a b w = rw (cell_at, cell_entry) (cell_gap a b w)
