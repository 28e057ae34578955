-- Laws of `All`: what holds of every element of a list holds of every element of its parts. Assumes nothing.
use Rattle.std.proofs.Common.{ℕ, zero, suc, List, [], ◌∷◌, ◌++◌, take, drop}
use Rattle.rules.specs.Meanings.{All, all_none, all_more}

pub all_front : {A : Type 0} {P : A → Type 0} (ps qs : List A) → All P (ps ++ qs) → All P ps
all_front [] qs h = all_none
all_front (p ∷ ps) qs (all_more h g) = all_more h (all_front ps qs g)

pub all_back : {A : Type 0} {P : A → Type 0} (ps qs : List A) → All P (ps ++ qs) → All P qs
all_back [] qs h = h
all_back (p ∷ ps) qs (all_more h g) = all_back ps qs g

pub all_take : {A : Type 0} {P : A → Type 0} {ps : List A} → All P ps → (k : ℕ) → All P (take k ps)
all_take h zero = all_none
all_take all_none (suc k) = all_none
all_take (all_more h g) (suc k) = all_more h (all_take g k)

pub all_drop : {A : Type 0} {P : A → Type 0} {ps : List A} → All P ps → (k : ℕ) → All P (drop k ps)
all_drop h zero = h
all_drop all_none (suc k) = all_none
all_drop (all_more h g) (suc k) = all_drop g k

pub all_first : {A : Type 0} {P : A → Type 0} {p : A} {ps : List A} → All P (p ∷ ps) → P p
all_first (all_more h g) = h

pub all_append : {A : Type 0} {P : A → Type 0} {ps qs : List A} → All P ps → All P qs → All P (ps ++ qs)
all_append all_none h = h
all_append (all_more g f) h = all_more g (all_append f h)

pub all_trivial : {A : Type 0} (ps : List A) → All (λ a. Unit {0}) ps
all_trivial [] = all_none
all_trivial (p ∷ ps) = all_more tt (all_trivial ps)
