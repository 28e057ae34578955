-- How many lines an edit composes anew, as the program counts them: from the first records of the old and the new
-- lines. What the report is stands in crate `rules`, specs/Redone.antt.
--
--   firsts       the first records of lines, told line by line
--   first from   the first line, from a line on, that does not start before a record
--
-- Assumes nothing.
use Rattle.std.specs.Prelude.{◌≡◌, ℕ, ◌*◌, ◌/◌, ◌-◌, ◌≤◌, ◌<◌, Bool, true, false, List, length, get_or}
use Rattle.rules.specs.Layout.{most_records, line_length}
use Rattle.rules.specs.Adjustment.{Line}
use Rattle.rules.specs.Redone.{start, first_redone, report}
use Rattle.slot.specs.declared.stretch.Stretch.{Stretch}

pub record Firsts (at : ℕ → ℕ) (n : ℕ) (ls : List Line) : Type 0 where
  pub count : n ≡ length ls
  pub first : (j : ℕ) → j < n → at j ≡ start j ls

-- one after another, as old lines are told, and in line words, as new ones are
abbrev pub Starts : List ℕ → ℕ → List Line → Type 0
Starts starts n ls = Firsts (λ j. get_or starts j 0) n ls

abbrev pub LineWords : List ℕ → ℕ → List Line → Type 0
LineWords ws n ls = Firsts (λ j. get_or ws (line_length * j) 0) n ls

-- j is the first line, from line i on, that starts with record r or a later one; or, if none does, the number of lines,
-- or i where that is no less
pub record FirstFrom (starts : List ℕ) (i r j : ℕ) : Type 0 where
  pub low : i ≤ j
  pub high : j - i ≤ length starts - i
  pub before : (k : ℕ) → k < j → i ≤ k → get_or starts k 0 < r
  pub there : j < length starts → r ≤ get_or starts j 0

-- whether line k is there and starts with record r
pub record StartsWith (starts : List ℕ) (k r : ℕ) (b : Bool) : Type 0 where
  pub yes : b ≡ true → (k < length starts) × (get_or starts k 0 ≡ r)
  pub no : b ≡ false → k < length starts → get_or starts k 0 ≡ r → ⊥

-- f and the report, of whatever lines start so
abbrev pub FirstRedone : List ℕ → ℕ → ℕ → Type 0
FirstRedone starts place f = (old : List Line) → Starts starts (length starts) old → f ≡ first_redone place old

abbrev pub Reported : List ℕ → List ℕ → Stretch → ℕ → Type 0
Reported starts words t r =
    (old new : List Line) → Starts starts (length starts) old → LineWords words (length words / line_length) new →
    r ≡ report t.place t.deleted t.inserted old new

-- few lines, n before an edit and `count` after it, and few records
pub record Countable (n count : ℕ) (t : Stretch) : Type 0 where
  pub few_old : n ≤ most_records
  pub few : count ≤ most_records
  pub few_before : t.place ≤ most_records
  pub few_deleted : t.deleted ≤ most_records
  pub few_inserted : t.inserted ≤ most_records
