-- A paragraph as the program holds it, six words to a record, and its units by their first record.
--
--   record_count  the number of records
--   units_from    the units of the records from record i on
--   unit_at       the unit that starts with record i; next_at: the record after it
--   checked       a paragraph of at most 256 records, to which answers 8, 12 and 9 do not apply
--
-- A unit by a record inside a group is what the rules make of the records from there on. Assumes nothing.
use Rattle.std.specs.Prelude.{◌≡◌, ℕ, ◌+◌, ◌-◌, ◌/◌, ◌≤◌, List, [], ◌∷◌, length, None}
use Rattle.rules.specs.Layout.{most_records, record_length}
use Rattle.rules.specs.Basics.{alone}
use Rattle.rules.specs.Records.{Rec, rec_at, records, bad_record}
use Rattle.rules.specs.Listed.{not_listed}
use Rattle.rules.specs.Groups.{TextUnit, units, count, group_fault}

abbrev pub record_count : List ℕ → ℕ
record_count ws = length ws / record_length

-- the paragraph's records
abbrev pub paragraph : List ℕ → List Rec
paragraph ws = records ws 0 (record_count ws)

unfoldable pub units_from : List ℕ → ℕ → List TextUnit
units_from ws i = units (records ws i (record_count ws - i))

abbrev pub head_or : {A : Type 0} → A → List A → A
head_or a [] = a
head_or a (b ∷ bs) = b

unfoldable pub unit_at : List ℕ → ℕ → TextUnit
unit_at ws i = head_or (alone (rec_at ws i)) (units_from ws i)

abbrev pub next_at : List ℕ → ℕ → ℕ
next_at ws i = i + count (unit_at ws i)

pub record Checked (ws : List ℕ) : Type 0 where
  pub few : record_count ws ≤ most_records
  pub sound : bad_record 0 (paragraph ws) ≡ None
  pub listed : not_listed 0 (paragraph ws) ≡ None
  pub grouped : group_fault (paragraph ws) ≡ None
