-- docs/RULES.md, "Space between units": rules a to k.
--
--   L, R         the left and the right unit's class
--   space        字間のアキ, between two units of a line, in fractions of the left and of the right size
--   gap          the place between two units of a line, and the space set there
--   Japanese     和文文字, of the classes that rules i and j name; with a dividing mark, 4, on the left
--
-- "No space is set before the first or after the last unit of a line": a line's gaps stand between its units.
-- Assumes nothing.
use Rattle.std.specs.Prelude.{ℕ, ◌+◌, ◌/◌, cond, ◌&&◌, List, [], ◌∷◌, eqb}
use Rattle.rules.specs.Basics.{is_in}

pub data Rule : Type 0 where
  rule_a rule_b rule_c rule_d rule_e rule_f rule_g rule_h rule_i rule_j rule_k : Rule

-- the Japanese characters beside which a Western one is set off, rules i and j: iteration marks, prolonged sound marks,
-- small kana, hiragana, katakana, ideographic and other
abbrev pub japanese : List ℕ
japanese = 9 ∷ 10 ∷ 11 ∷ 15 ∷ 16 ∷ 19 ∷ []

-- "The first matching rule holds."
unfoldable pub rule_of : ℕ → ℕ → Rule
rule_of L R =
    cond (eqb L 5 && eqb R 5) rule_a
    (cond (is_in L (6 ∷ 7 ∷ []) && eqb R 5) rule_b
    (cond (eqb R 5) rule_c
    (cond (eqb L 5) rule_d
    (cond (eqb L 1) rule_e
    (cond (eqb L 2) rule_f
    (cond (is_in L (6 ∷ 7 ∷ [])) rule_g
    (cond (eqb R 1) rule_h
    (cond (eqb L 27 && is_in R japanese) rule_i
    (cond (eqb R 27 && is_in L (4 ∷ japanese)) rule_j
    rule_k)))))))))

-- fractions of a size, which is a multiple of 8
pub data Fraction : Type 0 where
  no_part eighth quarter half : Fraction

abbrev pub part : Fraction → ℕ → ℕ
part no_part s = 0
part eighth s = s / 8
part quarter s = s / 4
part half s = s / 2

-- a space: a fraction of the left size and one of the right size, added
pub record Space : Type 0 where
  pub left : Fraction
  pub right : Fraction

abbrev pub spaced : Fraction → Fraction → Space
spaced a b = record { left = a; right = b }

-- the space in the units of the sheet, for a left and a right size
unfoldable pub measured : Space → ℕ → ℕ → ℕ
measured p left right = part p.left left + part p.right right

-- what each rule sets between classes L and R
unfoldable pub space_by : Rule → ℕ → ℕ → Space
space_by rule_a L R = spaced quarter quarter
space_by rule_b L R = spaced half quarter
space_by rule_c L R = spaced no_part quarter
space_by rule_d L R = spaced quarter no_part
space_by rule_e L R = spaced no_part no_part
space_by rule_f L R = cond (is_in R (2 ∷ 6 ∷ 7 ∷ 14 ∷ [])) (spaced no_part no_part) (spaced half no_part)
space_by rule_g L R = cond (is_in R (2 ∷ 6 ∷ 7 ∷ [])) (spaced no_part no_part) (spaced half no_part)
space_by rule_h L R = cond (eqb L 14) (spaced no_part no_part) (spaced no_part half)
space_by rule_i L R = spaced no_part quarter
space_by rule_j L R = spaced quarter no_part
space_by rule_k L R = spaced no_part no_part

-- the space between classes L and R
unfoldable pub space_of : ℕ → ℕ → Space
space_of L R = space_by (rule_of L R) L R
