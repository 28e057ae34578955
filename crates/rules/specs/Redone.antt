-- docs/RULES.md, "How many lines an edit composes anew", where the edit is accepted. What is promised of them, and
-- what the words below mean said without their algorithms, stands in Stable.antt.
--
--   old, new     the lines that the rules give the old and the new records
--   start        of a line: the number of its first record
--   place, deleted, inserted    of the edit, all in records
--   edit line    k: the old line that holds the place
--   first redone    f: the first line composed anew
--   resumed      r: the first line that is not; there an old line stands again, moved
--
-- Assumes nothing.
use Rattle.std.specs.Prelude.{ℕ, zero, suc, ◌+◌, ◌-◌, min, Bool, true, false, ◌&&◌}
use Rattle.std.specs.Prelude.{List, [], ◌∷◌, leb, ltb, length, drop}
use Rattle.rules.specs.Basics.{is_in}
use Rattle.rules.specs.Adjustment.{Line}

-- the first records of lines, of which the first starts at record i
unfoldable pub starts : ℕ → List Line → List ℕ
starts i [] = []
starts i (l ∷ ls) = i ∷ starts (i + l.count) ls

-- the first record of line j: what the lines before it count
unfoldable pub start : ℕ → List Line → ℕ
start zero ls = 0
start (suc j) [] = 0
start (suc j) (l ∷ ls) = l.count + start j ls

-- the line that holds record i, or the number of lines if none does
unfoldable pub holding : ℕ → List Line → ℕ
holding i [] = 0
holding i (l ∷ ls) = elim (ltb i l.count) [ true ↦ 0 | false ↦ suc (holding (i - l.count) ls) ]

-- "Let k be the old line holding the edit place, or the last old line if the place is the end, or 0 if there were
-- none"
unfoldable pub edit_line : ℕ → List Line → ℕ
edit_line place old = min (holding place old) (length old - 1)

-- "and let f be k−1 or 0 if k is 0"
abbrev pub first_redone : ℕ → List Line → ℕ
first_redone place old = edit_line place old - 1

-- the first of some lines that passes a test, or their number "if none does"; the first of them is line j and starts
-- at record i
unfoldable pub first_line : (ℕ → ℕ → Bool) → ℕ → ℕ → List Line → ℕ
first_line t j i [] = j
first_line t j i (l ∷ ls) = elim (t j i) [ true ↦ j | false ↦ first_line t (suc j) (i + l.count) ls ]

-- "new line numbered at least f and at least 1 that starts at or after the end of the inserted stretch, and whose
-- first record also started an old line numbered at least 1": new line j, which starts at record i; that record was
-- record i − inserted + deleted
abbrev pub resumes : ℕ → ℕ → ℕ → List Line → ℕ → ℕ → Bool
resumes place deleted inserted old j i =
    leb (first_redone place old) j && leb 1 j && leb (place + inserted) i
    && is_in (i - inserted + deleted) (drop 1 (starts 0 old))

-- "Let r be the first" such line; "if none does, r is the new line count"
unfoldable pub resumed : ℕ → ℕ → ℕ → List Line → List Line → ℕ
resumed place deleted inserted old new = first_line (resumes place deleted inserted old) 0 0 new

-- "The report is r−f"
unfoldable pub report : ℕ → ℕ → ℕ → List Line → List Line → ℕ
report place deleted inserted old new = resumed place deleted inserted old new - first_redone place old
