-- "A record": its words and its own rules. Answer 8.
--
--   record       six words: code point, class, size, advance, group, ruby count
--   class        文字クラス, one of eighteen, numbered as in JLReq: 1 opening bracket, 2 closing bracket, 3 hyphen,
--                4 dividing mark, 5 middle dot, 6 full stop, 7 comma, 8 inseparable character, 9 iteration mark,
--                10 prolonged sound mark, 11 small kana, 12 prefixed abbreviation, 13 postfixed abbreviation,
--                14 full-width space, 15 hiragana, 16 katakana, 19 ideographic and other, 27 Western character
--   row          a class's place among the eighteen, from 0
--   size         文字サイズ, the side of the character frame
--   advance      字幅, what the character takes along the line
--
-- Assumes nothing.
use Rattle.std.specs.Prelude.{ℕ, zero, suc, ◌+◌, ◌*◌, ◌/◌, ◌%◌, Bool, cond, not, ◌&&◌, List, [], ◌∷◌, leb}
use Rattle.std.specs.Prelude.{eqb, get_or, Option}
use Rattle.rules.specs.Basics.{is_in, within, first_failing}
use Rattle.rules.specs.Layout.{record_length}
use Rattle.rules.specs.Limits.{highest_code, size_step, least_size, largest_size, highest_group, most_ruby}

pub record Rec : Type 0 where
  pub code : ℕ
  pub class : ℕ
  pub size : ℕ
  pub advance : ℕ
  pub group : ℕ
  pub ruby : ℕ

-- "Code point: at most 0x10FFFF and no surrogate."
unfoldable pub code_ok : ℕ → Bool
code_ok k = leb k highest_code && not (within 0xD800 0xDFFF k)

-- "The eighteen classes are 1 to 16, 19 and 27"
unfoldable pub classes : List ℕ
classes = 1 ∷ 2 ∷ 3 ∷ 4 ∷ 5 ∷ 6 ∷ 7 ∷ 8 ∷ 9 ∷ 10 ∷ 11 ∷ 12 ∷ 13 ∷ 14 ∷ 15 ∷ 16 ∷ 19 ∷ 27 ∷ []

unfoldable pub class_ok : ℕ → Bool
unfolding classes
class_ok c = is_in c classes

-- a class's row: its place in a list, or the list's length where it has none
abbrev pub index_in : ℕ → List ℕ → ℕ
index_in c [] = 0
index_in c (d ∷ ds) = cond (eqb c d) 0 (suc (index_in c ds))

unfoldable pub class_index : ℕ → ℕ
unfolding classes
class_index c = index_in c classes

-- "Size: a multiple of 8, from 8 to 4,000."
unfoldable pub size_ok : ℕ → Bool
size_ok s = eqb (s % size_step) 0 && within least_size largest_size s

-- "Advance: half the size for classes 1, 2, 5, 6, 7; from 1 to the size for class 3; from 1 to twice the size for
-- class 27; the size itself for all others."
pub data AdvanceKind : Type 0 where
  half_size to_size to_twice full_size : AdvanceKind

unfoldable pub advance_kind : ℕ → AdvanceKind
advance_kind c =
    cond (is_in c (1 ∷ 2 ∷ 5 ∷ 6 ∷ 7 ∷ [])) half_size
    (cond (eqb c 3) to_size
    (cond (eqb c 27) to_twice
    full_size))

abbrev pub advance_fits : AdvanceKind → ℕ → ℕ → Bool
advance_fits half_size s a = eqb a (s / 2)
advance_fits to_size s a = within 1 s a
advance_fits to_twice s a = within 1 (2 * s) a
advance_fits full_size s a = eqb a s

unfoldable pub advance_ok : ℕ → ℕ → ℕ → Bool
advance_ok c s a = advance_fits (advance_kind c) s a

-- "Group 0 has ruby count 0. Group 1 to 65,535 has ruby count 1 to 64 and class 15, 16 or 19."
abbrev pub group_classes : List ℕ
group_classes = 15 ∷ 16 ∷ 19 ∷ []

unfoldable pub group_ok : ℕ → ℕ → ℕ → Bool
group_ok c g n = cond (eqb g 0) (eqb n 0) (leb g highest_group && within 1 most_ruby n && is_in c group_classes)

-- a record keeps its own rules
unfoldable pub rec_ok : Rec → Bool
rec_ok r =
    code_ok r.code && class_ok r.class && size_ok r.size && advance_ok r.class r.size r.advance
    && group_ok r.class r.group r.ruby

-- answer 8: the first record, counted from i, that breaks its own rules
unfoldable pub bad_record : ℕ → List Rec → Option ℕ
bad_record i rs = first_failing rec_ok i rs

abbrev pub rec_of : ℕ → ℕ → ℕ → ℕ → ℕ → ℕ → Rec
rec_of k c s a g n = record { code = k; class = c; size = s; advance = a; group = g; ruby = n }

-- record i of a list of words, six to a record
abbrev pub rec_at : List ℕ → ℕ → Rec
rec_at ws i =
    rec_of (get_or ws (record_length * i) 0)
    (get_or ws (record_length * i + 1) 0)
    (get_or ws (record_length * i + 2) 0)
    (get_or ws (record_length * i + 3) 0)
    (get_or ws (record_length * i + 4) 0)
    (get_or ws (record_length * i + 5) 0)

-- n records of a list of words, from record i on
unfoldable pub records : List ℕ → ℕ → ℕ → List Rec
records ws i zero = []
records ws i (suc n) = rec_at ws i ∷ records ws (suc i) n

-- and their words again
unfoldable pub record_words : List Rec → List ℕ
record_words [] = []
record_words (r ∷ rs) = r.code ∷ r.class ∷ r.size ∷ r.advance ∷ r.group ∷ r.ruby ∷ record_words rs
