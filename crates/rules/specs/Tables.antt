-- The class table and the spacing table, as the program has them, told in the rules' words. Of a name that the two
-- share, the program's ends in `Value`.
--
--   row          of a number: a class's place among the eighteen and its kind of advance
--   seen         a row of the program's class table
--
-- Assumes nothing.
use Rattle.std.specs.Prelude.{◌≡◌, ℕ, ◌+◌, ◌*◌, true, List, map}
use Rattle.rules.specs.Records.{class_ok, class_index, advance_kind}
use Rattle.rules.specs.Records.{AdvanceKind, half_size, to_size, to_twice, full_size}
use Rattle.rules.specs.declared.classes.AdvanceKind.{AdvanceKind as KindValue}
use Rattle.rules.specs.declared.classes.AdvanceKind.TheVariants.{Half, ToSize, ToTwice, Full}
use Rattle.rules.specs.declared.classes.ClassEntry.{ClassEntry}
use Rattle.rules.specs.Spacing.{cell_of, break_of}
use Rattle.rules.specs.Packed.{least_field, shrink_field}
use Rattle.rules.specs.declared.spacing.Part.{Part}
use Rattle.rules.specs.declared.spacing.Part.TheVariants.{Nothing, Quarter, Half as HalfPart, Punctuation}
use Rattle.rules.specs.declared.spacing.Part.TheVariants.{JapaneseWestern}
use Rattle.rules.specs.declared.spacing.Break.{Break}
use Rattle.rules.specs.declared.spacing.Break.TheVariants.{Permitted, Forbidden, ByCode}
use Rattle.rules.specs.declared.spacing.Cell.{Cell}

abbrev pub advance_kind_of : KindValue → AdvanceKind
advance_kind_of Half = half_size
advance_kind_of ToSize = to_size
advance_kind_of ToTwice = to_twice
advance_kind_of Full = full_size

abbrev pub Row : Type 0
Row = ℕ × AdvanceKind

-- for a number that is no class, the row past the last, and the kind of most classes
abbrev pub row_of : ℕ → Row
row_of c = (class_index c, advance_kind c)

abbrev pub seen : ClassEntry → Row
seen e = (e.index, advance_kind_of e.kind)

-- what the table has for a class
pub record IsEntryOf (c : ℕ) (e : ClassEntry) : Type 0 where
  pub class : class_ok c ≡ true
  pub index : e.index ≡ class_index c
  pub kind : advance_kind_of e.kind ≡ advance_kind c

-- the spacing table's cells -------------------------------------------------------------------------------------------

-- the number of the entry that two parts are, before and after the gap; past the last where there is none
abbrev pub entry_number : Part → Part → ℕ
entry_number Nothing Nothing = 0
entry_number Quarter Quarter = 1
entry_number HalfPart Quarter = 2
entry_number Nothing Quarter = 3
entry_number Quarter Nothing = 4
entry_number Punctuation Nothing = 5
entry_number HalfPart Nothing = 6
entry_number Nothing Punctuation = 7
entry_number Nothing JapaneseWestern = 8
entry_number JapaneseWestern Nothing = 9
entry_number _ _ = 10

abbrev pub break_number : Break → ℕ
break_number Permitted = 0
break_number Forbidden = 1
break_number ByCode = 2

-- a cell as the joint cell that it is
abbrev pub cell_number : Cell → ℕ
cell_number c = entry_number c.before c.after + 16 * break_number c.line_break

abbrev pub cell_numbers : List (List Cell) → List (List ℕ)
cell_numbers t = map (λ cells. map cell_number cells) t

-- what the table has for two classes: the number of the entry, and the break
pub record IsCellOf (L R : ℕ) (c : Cell) : Type 0 where
  pub space : entry_number c.before c.after ≡ cell_of L R
  pub line_break : break_number c.line_break ≡ break_of L R

-- what a part comes to of a size of 8, as a gap in one word
abbrev pub part_word : Part → ℕ
part_word Nothing = 0
part_word Quarter = 2
part_word HalfPart = 4
part_word Punctuation = 2 + 2 * least_field
part_word JapaneseWestern = 1 + least_field * shrink_field
