-- docs/RULES.md, "How many lines an edit composes anew": what is promised of an edit's lines, and what k, r and the
-- test of r mean, said without the definitions of Redone.antt. proofs/Claims.antt proves each of these.
--
--   stable       lines before f are the old ones, lines from r on are old lines, moved
--   used words   of a slot: those of its places and lines up to the counts
--   as ruled     a slot that holds what the rules give its records
--   moved        line words and place words under other record numbers and line numbers
--
-- Assumes nothing.
use Rattle.std.specs.Prelude.{◌≡◌, ℕ, suc, ◌+◌, ◌*◌, ◌-◌, ◌≤◌, ◌<◌, Bool, true, false}
use Rattle.std.specs.Prelude.{List, [], ◌∷◌, length, take, drop}
use Rattle.rules.specs.Layout.{place_length, line_length, places_at, lines_at}
use Rattle.rules.specs.Groups.{units}
use Rattle.rules.specs.Adjustment.{Line, compose}
use Rattle.rules.specs.Sheet.{place_words, line_words, measure_of, indent_of, count_of, line_count_of, records_of}
use Rattle.rules.specs.Redone.{start, first_redone, resumed}

-- What k, r and the test of r mean -----------------------------------------------------------------------------------

-- line k holds record i
pub record Holds (i : ℕ) (ls : List Line) (k : ℕ) : Type 0 where
  pub there : k < length ls
  pub from : start k ls ≤ i
  pub to : i < start (suc k) ls

-- r is the first line that passes a test of its number and its first record, or the number of lines
pub record FirstThat (t : ℕ → ℕ → Bool) (ls : List Line) (r : ℕ) : Type 0 where
  pub none_before : (j : ℕ) → j < r → t j (start j ls) ≡ false
  pub passes : r < length ls → t r (start r ls) ≡ true
  pub within : r ≤ length ls

-- new line j, which starts at record i, is numbered at least f and at least 1, starts at or after the end of the
-- inserted stretch, and its first record started an old line numbered at least 1
pub record Resumes (place deleted inserted : ℕ) (old : List Line) (j i : ℕ) : Type 0 where
  pub from_f : first_redone place old ≤ j
  pub from_1 : 1 ≤ j
  pub past : place + inserted ≤ i
  -- the old line; with the deleted records in and the inserted ones out, its first record is the same one
  pub again : ℕ
  pub numbered : 1 ≤ again
  pub there : again < length old
  pub same : i + deleted ≡ start again old + inserted

-- What is promised of lines ------------------------------------------------------------------------------------------

-- "new lines before f, with their places, equal the old ones, and .. those from r on equal old lines moved only by
-- the change in record and line numbers". A line tells its records' x, its end x, its kind and how many records it
-- has, and neither a record's number nor its own: lines that are moved are equal
pub record StableAround (f r deleted inserted : ℕ) (old new : List Line) : Type 0 where
  pub before : take f new ≡ take f old
  -- the old line that stands again as line r. All lines from there on have this one shift in line numbers
  pub again : ℕ
  pub after : drop r new ≡ drop again old
  -- it is numbered at least 1, and the shift in record numbers is the edit's: deleted records go, inserted ones come
  pub moved : r < length new → (1 ≤ again) × (again < length old) × (start r new + deleted ≡ start again old + inserted)
  pub in_order : f ≤ r
  pub within : r ≤ length new

-- What is promised of words ------------------------------------------------------------------------------------------

-- the words of places and of lines that are in use
pub record Used : Type 0 where
  pub places : List ℕ
  pub lines : List ℕ

-- of lines, and of a slot s
abbrev pub used_by : List Line → Used
used_by ls = record { places = place_words 0 ls; lines = line_words 0 ls }

abbrev pub used_of : List ℕ → Used
used_of s =
    record {
      places = take (place_length * count_of s) (drop places_at s);
      lines = take (line_length * line_count_of s) (drop lines_at s);
    }

-- the lines that the rules give a slot's records
abbrev pub ruled_lines : List ℕ → List Line
ruled_lines s = compose (measure_of s) (indent_of s) (units (records_of s))

-- a slot that holds what the rules give its records
abbrev pub AsRuled : List ℕ → Type 0
AsRuled s = used_of s ≡ used_by (ruled_lines s)

-- line words whose first records, and place words whose line numbers, are moved up by a and down by d
unfoldable pub moved_lines : ℕ → ℕ → List ℕ → List ℕ
moved_lines a d [] = []
moved_lines a d (first ∷ []) = []
moved_lines a d (first ∷ end ∷ []) = []
moved_lines a d (first ∷ end ∷ kind ∷ ws) = (first + a - d) ∷ end ∷ kind ∷ moved_lines a d ws

unfoldable pub moved_places : ℕ → ℕ → List ℕ → List ℕ
moved_places a d [] = []
moved_places a d (x ∷ []) = []
moved_places a d (x ∷ line ∷ ws) = x ∷ (line + a - d) ∷ moved_places a d ws

-- v, the words of the new lines, beside w, those of the old ones: line words before line f and place words before its
-- first record are the old ones, those from line r on are the old ones from line `again` on, moved
pub record WordsStable (f r again deleted inserted : ℕ) (old new : List Line) (w v : Used) : Type 0 where
  pub lines_before : take (line_length * f) v.lines ≡ take (line_length * f) w.lines
  pub places_before : take (place_length * start f old) v.places ≡ take (place_length * start f old) w.places
  pub lines_after : drop (line_length * r) v.lines ≡
      moved_lines inserted deleted (drop (line_length * again) w.lines)
  pub places_after : drop (place_length * start r new) v.places ≡
      moved_places r again (drop (place_length * start again old) w.places)

-- The promise --------------------------------------------------------------------------------------------------------

-- lines were `old` with the used words w, and are `new` with v; n is reported. "The report is r−f and never exceeds the
-- new line count."
pub record Stable (f r deleted inserted : ℕ) (old new : List Line) (w v : Used) (n : ℕ) : Type 0 where
  pub lines : StableAround f r deleted inserted old new
  pub words : WordsStable f r lines.again deleted inserted old new w v
  pub between : f + n ≡ r
  pub few : n ≤ length new

-- of an edit, by its own f and r
abbrev pub StableEdit : ℕ → ℕ → ℕ → List Line → List Line → Used → Used → ℕ → Type 0
StableEdit place deleted inserted old new w v n =
    Stable (first_redone place old) (resumed place deleted inserted old new) deleted inserted old new w v n
