-- What is read off the blocks: each row is whole, and its numbers are of eights. The checker computes both over all
-- rows. Assumes nothing.
use Rattle.std.proofs.Common.{◌≡◌, refl, Bool, true, List, [], ℕ, ◌<◌, arith, ltb, eqb, length}
use Rattle.std.proofs.Common.{get_or, ltb-true, eqb-true}
use Rattle.std.specs.List.{list_all}
use Rattle.std.proofs.lemmas.List.Elements.{All-get_or}
use Rattle.std.proofs.lemmas.List.Sums.{AllPass-from_list_all}
use Rattle.lists.specs.Entries.{blocks}
use Rattle.lists.specs.declared.tables.TheConstants.{BLOCKS}

-- a test that passes on a list passes on each of its elements
passes : {X : Type 0} (p : X → Bool) (xs : List X) (i : ℕ) (d : X) → list_all p xs ≡ true → i < length xs →
    p (get_or xs i d) ≡ true
passes p xs i d e h = All-get_or (λ x. p x ≡ true) xs i d h (AllPass-from_list_all p xs e)

abbrev eight_long : {X : Type 0} → List X → Bool
eight_long row = eqb (length row) 8

abbrev numbers_eights : List ℕ → Bool
numbers_eights row = list_all (λ n. ltb n 172) row

blocks_whole : list_all eight_long BLOCKS ≡ true
blocks_whole = refl

blocks_number : list_all numbers_eights BLOCKS ≡ true
blocks_number = refl

pub block_small : (n i : ℕ) → n < 208 → i < 8 → get_or (get_or blocks n []) i 0 < 172
unfolding blocks
block_small n i h g =
    let long = eqb-true (length (get_or BLOCKS n [])) 8 (passes eight_long BLOCKS n [] blocks_whole h) in
    ltb-true (get_or (get_or BLOCKS n []) i 0) 172
    (passes (λ n. ltb n 172) (get_or BLOCKS n []) i 0 (passes numbers_eights BLOCKS n [] blocks_number h)
    (omega (arith, long, g)))
