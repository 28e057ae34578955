-- docs/RULES.md, "Space between units": the spacing table, eighteen rows of eighteen cells.
--
--   row, column  the left and the right class, in the order of `classes`; in source document 004 before, 前, and
--                after, 後ろ
--   entry        what a cell names: the fractions of the left and of the right size that the space is, and how the gap
--                gives way
--   break        what two classes say of the break between them, as a number
--   cell         an entry's number, from 0; with 16 times the break's, the joint cell, which stands in the table
--
-- Rules a to k and `forbidden` stay the definitions: a cell has the first of the ten entries that agrees with the
-- rules, and what `forbidden` says. That no cell is without an entry, and that with the code points it tells the
-- break, is computed over all 324: `cells_agree` of proofs/SpacingCells.antt, `breaks_agree` of
-- proofs/SpacingBreaks.antt. Assumes nothing.
use Rattle.std.specs.Prelude.{ℕ, suc, ◌+◌, ◌*◌, ◌%◌, Bool, cond, ◌&&◌, ◌||◌, List, [], ◌∷◌, map, eqb, get_or}
use Rattle.rules.specs.Records.{classes, class_index}
use Rattle.rules.specs.Space.{Fraction, no_part, eighth, quarter, half, Space, spaced, rule_of, space_of}
use Rattle.rules.specs.Sides.{forbidden}
use Rattle.rules.specs.Gaps.{Flexibility, punctuation, japanese_western, fixed, flexibility, Gap, gap_by}

pub record Entry : Type 0 where
  pub space : Space
  pub gives : Flexibility

abbrev pub entry : Fraction → Fraction → Flexibility → Entry
entry a b f = record { space = spaced a b; gives = f }

-- nothing: 無印, ベタ組
abbrev pub solid : Entry
solid = entry no_part no_part fixed

-- the entries, in the order of their numbers, with the rules that set them
unfoldable pub entries : List Entry
entries =
    solid  -- e and k; f, g and h where they set 0
    ∷ entry quarter quarter fixed  -- a
    ∷ entry half quarter fixed  -- b
    ∷ entry no_part quarter fixed  -- c
    ∷ entry quarter no_part fixed  -- d
    ∷ entry half no_part punctuation  -- f, and g after 7
    ∷ entry half no_part fixed  -- g after 6
    ∷ entry no_part half punctuation  -- h
    ∷ entry no_part quarter japanese_western  -- i
    ∷ entry quarter no_part japanese_western  -- j
    ∷ []

-- the entry of a number
abbrev pub named : ℕ → Entry
named n = get_or entries n solid

-- the gap that an entry sets between a left and a right size, with its weight at stretch stage 2
abbrev pub gap_set : Entry → ℕ → ℕ → ℕ → Gap
gap_set e left right w = gap_by e.gives e.space left right w

-- fractions and flexibilities as numbers, to compare them by
abbrev pub eighths : Fraction → ℕ
eighths no_part = 0
eighths eighth = 1
eighths quarter = 2
eighths half = 4

abbrev pub flexibility_number : Flexibility → ℕ
flexibility_number fixed = 0
flexibility_number punctuation = 1
flexibility_number japanese_western = 2

abbrev pub same_space : Space → Space → Bool
same_space p q = eqb (eighths p.left) (eighths q.left) && eqb (eighths p.right) (eighths q.right)

-- an entry agrees with the rules between two classes: it is their space, and where that is not nothing, it gives way
-- as they say
unfoldable pub agrees : Entry → ℕ → ℕ → Bool
agrees e L R =
    same_space e.space (space_of L R)
    && (same_space solid.space (space_of L R)
    || eqb (flexibility_number e.gives) (flexibility_number (flexibility (rule_of L R) L)))

-- the place of the first entry that agrees, or the list's length
abbrev pub first_agreeing : List Entry → ℕ → ℕ → ℕ
first_agreeing [] L R = 0
first_agreeing (e ∷ es) L R = cond (agrees e L R) 0 (suc (first_agreeing es L R))

unfoldable pub cell_of : ℕ → ℕ → ℕ
unfolding entries
cell_of L R = first_agreeing entries L R

-- whether the break is forbidden between two sides of these classes and code points
abbrev pub forbidden_at : ℕ → ℕ → ℕ → ℕ → Bool
forbidden_at L R c d =
    forbidden (record { class = L; size = 8; code = c }) (record { class = R; size = 8; code = d })

-- 1: forbidden whatever the code points, so even between two that differ and are no digits. 2: they decide, so it is
-- forbidden between two equal digits only. 0: permitted even there
unfoldable pub break_of : ℕ → ℕ → ℕ
break_of L R = cond (forbidden_at L R 0 1) 1 (cond (forbidden_at L R 0x30 0x30) 2 0)

unfoldable pub joint_cell : ℕ → ℕ → ℕ
joint_cell L R = cell_of L R + 16 * break_of L R

unfoldable pub spacing_table : List (List ℕ)
unfolding classes
spacing_table = map (λ L. map (λ R. joint_cell L R) classes) classes

-- the joint cell that a table has for two classes, and the number of the entry in it
abbrev pub joint_in : List (List ℕ) → ℕ → ℕ → ℕ
joint_in t L R = get_or (get_or t (class_index L) []) (class_index R) 0

abbrev pub cell_in : List (List ℕ) → ℕ → ℕ → ℕ
cell_in t L R = joint_in t L R % 16
