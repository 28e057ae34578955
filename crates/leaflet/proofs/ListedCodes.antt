-- A code point gets a class exactly where some list has it, and stands in the list of the class that it gets. Assumes
-- nothing.
use Rattle.std.proofs.Common.{◌≡◌, refl, sym, ◌∙◌, ℕ, arith, true, false, List, ◌∷◌, map, ◌↔◌, eqb, eq-eqb, ne_eqb}
use Rattle.std.proofs.Math.Bool.{or-true}
use borrow.Author.Tests.{eqb-false, not-true}
use Rattle.lists.specs.Ranges.{Range}
use Rattle.lists.specs.Lists.{ClassList, list, lists, in_list, class_of}
use Rattle.lists.specs.Meanings.{Among, among_here, among_later, Belongs, Gets, gets_western, gets_lowest, gets_none}
use Rattle.lists.proofs.Claims.{in_list_means, class_of_means}
use Rattle.rules.specs.Basics.{is_in}
use Rattle.rules.specs.Records.{class_ok}
use Rattle.rules.proofs.Listed.{class_in, classes_listed}
use Rattle.leaflet.specs.Contents.{listed}
use Rattle.std.proofs.lemmas.Bool.{true≢false}

-- 0 is no class
no_list_0 : (c : ℕ) → in_list 0 c ≡ false
unfolding in_list lists
no_list_0 c = refl

gets_own : {c d : ℕ} → Gets c d → (d ≡ 0 → ⊥) → Belongs d c lists
gets_own (gets_western b) h = b
gets_own (gets_lowest f b g) h = b
gets_own (gets_none g) h = absurd (h refl)

gets_some : {c d e : ℕ} → Gets c d → Belongs e c lists → d ≡ 0 → ⊥
gets_some (gets_western w) b z = omega arith
gets_some {c} (gets_lowest f w g) b z = true≢false (sym ((in_list_means 0 c).1 (rw z at w)) ∙ no_list_0 c)
gets_some {e = e} (gets_none g) b z = g e b

pub own_list : (c : ℕ) → listed c ≡ true → Belongs (class_of c) c lists
unfolding listed
own_list c h = gets_own (class_of_means c) (eqb-false (class_of c) 0 (not-true _ h))

pub some_list : (c : ℕ) → (listed c ≡ true) ↔ ((d : ℕ) × Belongs d c lists)
unfolding listed
some_list c = (λ h. (class_of c, own_list c h), λ b. rw (ne_eqb (class_of c) 0 (gets_some (class_of_means c) b.1)))

-- a class that has a list is one of the eighteen
among_classes : {c : ℕ} {rs : List Range} (ls : List ClassList) → Among (list c rs) ls →
    is_in c (map class_in ls) ≡ true
among_classes {c = c} {rs = rs} mathlib.Core.List.[] x' = elim x' [ ]
among_classes {c} (l ∷ ls) among_here = rw (eq-eqb c c refl)
among_classes {c} (list d rs ∷ ls) (among_later a) = rw (among_classes ls a) (or-true (eqb c d))

pub own_class : (c : ℕ) → listed c ≡ true → class_ok (class_of c) ≡ true
unfolding class_ok
own_class c h = rw classes_listed at (among_classes lists (own_list c h).own)
