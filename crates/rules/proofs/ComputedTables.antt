-- A table's rule, proved once: where a table is the list of a definition's values, as the checker sees by computing,
-- each entry is the definition's value at its place. And a test over a list, which holds of each of its numbers.
-- Assumes nothing.
use Rattle.std.proofs.Common.{◌≡◌, sym, ℕ, zero, suc, ◌+◌, ◌<◌, add-zero, zero-add, add-suc, suc-add}
use Rattle.std.proofs.Common.{le_of_suc-le-suc, not-suc-le-zero, Bool, true, ◌&&◌, List, [], ◌∷◌, map, inl, inr, eqb}
use Rattle.std.proofs.Common.{get_or, eqb-true}
use Rattle.std.proofs.Math.Bool.{and-eq-true_iff}
use Rattle.rules.specs.Basics.{is_in, tabled}
use Rattle.rules.specs.Records.{index_in}
use Rattle.rules.specs.Meanings.{All, all_none, all_more}
use Rattle.std.proofs.lemmas.Bool.{cases_Bool, true≢false}

tabled_from : {A : Type 0} (g : ℕ → A) (d : A) (i n k : ℕ) → k < n → get_or (tabled g i n) k d ≡ g (i + k)
tabled_from g d i zero k h = absurd (not-suc-le-zero h)
tabled_from g d i (suc n) zero h = rw add-zero
tabled_from g d i (suc n) (suc k) h = rw (add-suc, ← suc-add) (tabled_from g d (suc i) n k (le_of_suc-le-suc h))

pub tabled_at : {A : Type 0} (g : ℕ → A) (d : A) (n k : ℕ) → k < n → get_or (tabled g 0 n) k d ≡ g k
tabled_at g d n k h = rw zero-add at (tabled_from g d 0 n k h)

-- a test that holds of each number of a list
abbrev pub all_of : (ℕ → Bool) → List ℕ → Bool
all_of t [] = true
all_of t (k ∷ ks) = t k && all_of t ks

-- what holds of each number of a list holds of a number that is in it
pub holds_in : {P : ℕ → Type 0} {ks : List ℕ} → All P ks → (c : ℕ) → is_in c ks ≡ true → P c
holds_in all_none c e = absurd (true≢false (sym e))
holds_in (all_more {a = k} p h) c e =
    elim (cases_Bool (eqb c k)) [ inl q ↦ rw (eqb-true c k q) p | inr q ↦ holds_in h c (rw q at e) ]

pub all_at : (t : ℕ → Bool) (ks : List ℕ) → all_of t ks ≡ true → (c : ℕ) → is_in c ks ≡ true → t c ≡ true
all_at t ks h c e = holds_in (all_hold ks h) c e
  where
    all_hold : (ks : List ℕ) → all_of t ks ≡ true → All (λ k. t k ≡ true) ks
    all_hold [] h = all_none
    all_hold (k ∷ ks) h = let both = (and-eq-true_iff (t k) (all_of t ks)).0 h in all_more both.0 (all_hold ks both.1)

-- and of each two of its numbers
abbrev pub all_pairs : (ℕ → ℕ → Bool) → List ℕ → Bool
all_pairs t ks = all_of (λ k. all_of (λ j. t k j) ks) ks

pub pairs_at : (t : ℕ → ℕ → Bool) (ks : List ℕ) → all_pairs t ks ≡ true → (c d : ℕ) → is_in c ks ≡ true →
    is_in d ks ≡ true → t c d ≡ true
pairs_at t ks h c d e f = all_at (λ j. t c j) ks (all_at (λ k. all_of (λ j. t k j) ks) ks h c e) d f

-- what a definition has for a number of a list stands at the number's place
pub map_at : {A : Type 0} (g : ℕ → A) (d : A) (ks : List ℕ) (c : ℕ) → is_in c ks ≡ true →
    get_or (map g ks) (index_in c ks) d ≡ g c
map_at g d [] c e = absurd (true≢false (sym e))
map_at g d (k ∷ ks) c e =
    elim (cases_Bool (eqb c k)) [
      | inl q ↦ rw (q, eqb-true c k q)
      | inr q ↦ rw q (map_at g d ks c (rw q at e))
    ]
