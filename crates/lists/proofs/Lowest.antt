-- Lists in ascending order of their classes: the first that has a code point is the lowest-numbered.
-- Assumes nothing.
use Rattle.std.proofs.Common.{◌≡◌, refl, sym, ◌∙◌, ℕ, suc, ◌≤◌, ◌<◌, arith, Bool, true, false, cond, ◌&&◌, List, []}
use Rattle.std.proofs.Common.{◌∷◌, ◌⊎◌, inl, inr, leb, leb-true}
use Rattle.std.proofs.Math.Bool.{and-eq-true_iff}
use Rattle.lists.specs.Ranges.{Range, has_code}
use Rattle.lists.specs.Lists.{ClassList, list, lowest_with}
use Rattle.lists.specs.Meanings.{Among, among_here, among_later, Has, Belongs}
use Rattle.std.proofs.lemmas.Bool.{true≢false}
use Rattle.lists.proofs.Has.{code_has, has_code_holds}

-- the classes ascend, from lo on
abbrev pub ascending : ℕ → List ClassList → Bool
ascending lo [] = true
ascending lo (list n rs ∷ ls) = leb lo n && ascending (suc n) ls

from_on : (lo : ℕ) (ls : List ClassList) → ascending lo ls ≡ true → (c : ℕ) (rs : List Range) → Among (list c rs) ls →
    lo ≤ c
from_on lo [] e c rs x'' = elim x'' [ ]
from_on lo (list n qs ∷ ls) e c rs among_here =
    leb-true lo n ((and-eq-true_iff (leb lo n) (ascending (suc n) ls)).0 e).0
from_on lo (list n qs ∷ ls) e c rs (among_later m) =
    let both = (and-eq-true_iff (leb lo n) (ascending (suc n) ls)).0 e in
    omega (arith, leb-true lo n both.0, from_on (suc n) ls both.1 c rs m)

nowhere : {l : ClassList} → Among l [] → ⊥
nowhere m = elim m [ ]

-- a list that has k is the first, or a later one
first_or_later : {k d n : ℕ} {qs rs : List Range} {ls : List ClassList} → Among (list d qs) (list n rs ∷ ls) →
    Has k qs →
    ((d ≡ n) × Has k rs) ⊎ Belongs d k ls
first_or_later among_here h = inl (refl, h)
first_or_later (among_later m) h = inr (record { ranges = _; own = m; has = h })

-- the lowest-numbered of some lists that has k, or 0 where none has
pub data Lowest (k : ℕ) (ls : List ClassList) : ℕ → Type 0 where
  lowest_found : {c : ℕ} → Belongs c k ls → ((d : ℕ) → d < c → Belongs d k ls → ⊥) → Lowest k ls c
  lowest_none : ((d : ℕ) → Belongs d k ls → ⊥) → Lowest k ls 0

pub lowest_is : (k lo : ℕ) (ls : List ClassList) → ascending lo ls ≡ true → Lowest k ls (lowest_with k ls)
lowest_is k lo [] e = lowest_none (λ d b. nowhere b.own)
lowest_is k lo (list n rs ∷ ls) e =
    let both = (and-eq-true_iff (leb lo n) (ascending (suc n) ls)).0 e in
    cases (has_code k rs) refl both.1 (lowest_is k (suc n) ls both.1)
  where
    later : {d : ℕ} → Belongs d k ls → Belongs d k (list n rs ∷ ls)
    later b = record { ranges = b.ranges; own = among_later b.own; has = b.has }

    not_below : ascending (suc n) ls ≡ true → (d : ℕ) → d < n → Belongs d k (list n rs ∷ ls) → ⊥
    not_below f d h b =
        elim (first_or_later b.own b.has) [
          | inl g ↦ omega (arith, g.0)
          | inr g ↦ omega (arith, from_on (suc n) ls f d g.ranges g.own)
        ]

    past : (d : ℕ) → has_code k rs ≡ false → Belongs d k (list n rs ∷ ls) → Belongs d k ls
    past d q b =
        elim (first_or_later b.own b.has) [
          | inl g ↦ absurd (true≢false (sym (has_code_holds k rs g.1) ∙ q))
          | inr g ↦ g
        ]

    cases : (t : Bool) → has_code k rs ≡ t → ascending (suc n) ls ≡ true → {c : ℕ} → Lowest k ls c →
        Lowest k (list n rs ∷ ls) (cond t n c)
    cases true q f l =
        lowest_found (record { ranges = rs; own = among_here; has = code_has k rs q }) (not_below f)
    cases false q f (lowest_found b g) = lowest_found (later b) (λ d h a. g d h (past d q a))
    cases false q f (lowest_none g) = lowest_none (λ d a. g d (past d q a))
