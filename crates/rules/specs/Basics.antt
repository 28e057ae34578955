-- Words that several sections of docs/RULES.md share.
--
--   is one of    a number stands in a list: `is_in`
--   from .. to   a number lies between two others, both included: `within`
--   run          a list that is not empty
--   joined       runs, one after the other, as one list
--   cut          a list cut between each two neighbours that a test does not link
--   first of     the first row of a table whose test holds, or what stands under the table
--   first failing    the place of the first element of a list that fails a test
--   zeros        words past a count
--   tabled       the list of a definition's values, number after number
--
-- Assumes nothing.
use Rattle.std.specs.Prelude.{ℕ, zero, suc, ◌-◌, Bool, true, false, cond, ◌&&◌, ◌||◌, List, [], ◌∷◌, ◌++◌}
use Rattle.std.specs.Prelude.{leb, eqb, length, replicate, Option, None, Some}

abbrev pub is_in : ℕ → List ℕ → Bool
is_in x [] = false
is_in x (y ∷ ys) = eqb x y || is_in x ys

abbrev pub within : ℕ → ℕ → ℕ → Bool
within lo hi x = leb lo x && leb x hi

pub record Run (A : Type 0) : Type 0 where
  pub first : A
  pub rest : List A

abbrev pub alone : {A : Type 0} → A → Run A
alone a = record { first = a; rest = [] }

-- a run as a list
abbrev pub whole : {A : Type 0} → Run A → List A
whole l = l.first ∷ l.rest

-- one run after another, as one run
abbrev pub extended : {A : Type 0} → Run A → Run A → Run A
extended l k = record { first = l.first; rest = l.rest ++ whole k }

unfoldable pub joined : {A : Type 0} → List (Run A) → List A
joined [] = []
joined (l ∷ ls) = whole l ++ joined ls

-- put an element before runs: into the first run where it is linked to that run's first element, else as a run of its
-- own
abbrev pub link : {A : Type 0} → (A → A → Bool) → A → List (Run A) → List (Run A)
link t a [] = alone a ∷ []
link t a (l ∷ ls) = cond (t a l.first) (extended (alone a) l ∷ ls) (alone a ∷ l ∷ ls)

unfoldable pub cut : {A : Type 0} → (A → A → Bool) → List A → List (Run A)
cut t [] = []
cut t (a ∷ bs) = link t a (cut t bs)

abbrev pub first_of : {A : Type 0} → List (Bool × A) → A → A
first_of [] a = a
first_of (row ∷ rows) a = cond row.0 row.1 (first_of rows a)

-- counted from i
unfoldable pub first_failing : {A : Type 0} → (A → Bool) → ℕ → List A → Option ℕ
first_failing t i [] = None
first_failing t i (a ∷ bs) = elim (t a) [ true ↦ first_failing t (suc i) bs | false ↦ Some i ]

-- shut, since at a numeral it would be written out, zero by zero
unfoldable pub zeros : ℕ → List ℕ
zeros n = replicate n 0

-- a list brought to n words by zeros
abbrev pub padded : ℕ → List ℕ → List ℕ
padded n ws = ws ++ zeros (n - length ws)

-- the values of g at n numbers, from i on
abbrev pub tabled : {A : Type 0} → (ℕ → A) → ℕ → ℕ → List A
tabled g i zero = []
tabled g i (suc n) = g i ∷ tabled g (suc i) n
