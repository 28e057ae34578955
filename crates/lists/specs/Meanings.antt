-- What the two questions of Lists mean, said without going through the lists. proofs/Claims.antt proves each of these.
--
--   has          some range of a list has a code point
--   belongs      a code point stands in a class's list, one of some lists
--   gets         the class that a code point gets
--
-- Assumes nothing.
use Rattle.std.specs.Prelude.{ℕ, ◌≤◌, ◌<◌, List, ◌∷◌}
use Rattle.lists.specs.Ranges.{Range, range}
use Rattle.lists.specs.Lists.{ClassList, list, lists}

-- a is an element of a list
pub data Among {A : Type 0} (a : A) : List A → Type 0 where
  among_here : {bs : List A} → Among a (a ∷ bs)
  among_later : {b : A} {bs : List A} → Among a bs → Among a (b ∷ bs)

pub record Has (k : ℕ) (rs : List Range) : Type 0 where
  pub first : ℕ
  pub last : ℕ
  pub there : Among (range first last) rs
  pub low : first ≤ k
  pub high : k ≤ last

-- class c has a list among ls, and it has k
pub record Belongs (c k : ℕ) (ls : List ClassList) : Type 0 where
  pub ranges : List Range
  pub own : Among (list c ranges) ls
  pub has : Has k ranges

-- "27 if that list has it, else the lowest-numbered list's, else none", which is 0
pub data Gets (k : ℕ) : ℕ → Type 0 where
  gets_western : Belongs 27 k lists → Gets k 27
  gets_lowest : {c : ℕ} → (Belongs 27 k lists → ⊥) → Belongs c k lists → ((d : ℕ) → d < c → Belongs d k lists → ⊥) →
      Gets k c
  gets_none : ((d : ℕ) → Belongs d k lists → ⊥) → Gets k 0
