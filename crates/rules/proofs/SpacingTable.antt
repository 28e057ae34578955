-- The program's spacing table: that it is the rules' is computed over all 324 cells, and read off at each two classes.
-- What an entry takes of each size, by the table's parts. Assumes nothing.
use Rattle.std.proofs.Common.{◌≡◌, ℕ, true, refl, sym, ap, ◌∙◌, ◌<◌, [], map, get_or, arith}
use Rattle.std.proofs.Math.ListN.{get_or-map}
use Rattle.rules.specs.Records.{classes, class_ok, class_index}
use Rattle.rules.specs.Spacing.{joint_cell, spacing_table, named}
use Rattle.rules.specs.Packed.{left_word, right_word}
use Rattle.rules.specs.Computed.{computed}
use Rattle.rules.specs.Tables.{entry_number, cell_number, cell_numbers, part_word, IsCellOf}
use Rattle.rules.specs.declared.spacing.Part.{Part}
use Rattle.rules.specs.declared.spacing.Part.TheVariants.{Nothing, Quarter, Half, Punctuation, JapaneseWestern}
use Rattle.rules.specs.declared.spacing.Cell.{Cell}
use Rattle.rules.specs.declared.spacing.TheConstants.{SPACING}
use Rattle.rules.proofs.ComputedTables.{map_at}
use Rattle.rules.proofs.SpacingCells.{cell_small}

pub table_ruled : cell_numbers SPACING ≡ spacing_table
unfolding computed
table_ruled = refl

small : (b a : Part) → entry_number b a < 16
small b a = grind arith

-- the parts of an entry are its words
pub parts_words : (b a : Part) → entry_number b a < 10 →
    (part_word b ≡ left_word (named (entry_number b a))) × (part_word a ≡ right_word (named (entry_number b a)))
unfolding computed
parts_words Nothing Nothing h = (refl, refl)
parts_words Nothing Quarter h = (refl, refl)
parts_words Nothing Half h = absurd (omega arith)
parts_words Nothing Punctuation h = (refl, refl)
parts_words Nothing JapaneseWestern h = (refl, refl)
parts_words Quarter Nothing h = (refl, refl)
parts_words Quarter Quarter h = (refl, refl)
parts_words Quarter Half h = absurd (omega arith)
parts_words Quarter Punctuation h = absurd (omega arith)
parts_words Quarter JapaneseWestern h = absurd (omega arith)
parts_words Half Nothing h = (refl, refl)
parts_words Half Quarter h = (refl, refl)
parts_words Half Half h = absurd (omega arith)
parts_words Half Punctuation h = absurd (omega arith)
parts_words Half JapaneseWestern h = absurd (omega arith)
parts_words Punctuation Nothing h = (refl, refl)
parts_words Punctuation Quarter h = absurd (omega arith)
parts_words Punctuation Half h = absurd (omega arith)
parts_words Punctuation Punctuation h = absurd (omega arith)
parts_words Punctuation JapaneseWestern h = absurd (omega arith)
parts_words JapaneseWestern Nothing h = (refl, refl)
parts_words JapaneseWestern Quarter h = absurd (omega arith)
parts_words JapaneseWestern Half h = absurd (omega arith)
parts_words JapaneseWestern Punctuation h = absurd (omega arith)
parts_words JapaneseWestern JapaneseWestern h = absurd (omega arith)

module _ (L R : ℕ) (l : class_ok L ≡ true) (r : class_ok R ≡ true) where
  abbrev read : Cell → Cell
  read d = get_or (get_or SPACING (class_index L) []) (class_index R) d

  number_at : (d : Cell) → cell_number (read d) ≡ joint_cell L R
  unfolding class_ok spacing_table class_index
  number_at d =
      sym (get_or-map cell_number (get_or SPACING (class_index L) []) (class_index R) d)
      ∙ ap (λ cells. get_or cells (class_index R) (cell_number d))
      (sym (get_or-map (λ cells. map cell_number cells) SPACING (class_index L) [])
      ∙ ap (λ t. get_or t (class_index L) []) table_ruled
      ∙ map_at (λ K. map (λ S. joint_cell K S) classes) [] classes L l)
      ∙ map_at (λ S. joint_cell L S) (cell_number d) classes R r

  pub cell_read : (d : Cell) → IsCellOf L R (read d)
  unfolding joint_cell
  cell_read d =
      let number = number_at d in
      let entry = small (read d).before (read d).after in
      let ruled = cell_small L R l r in
      record { space = omega arith; line_break = omega arith }
