-- Beginnings: a beginning is exactly what a reader can get through. Assumes nothing.
use Rattle.std.proofs.Common.{◌≡◌, refl, List, [], ◌∷◌, ◌++◌, append-nil}
use Rattle.leaflet.specs.Items.{Item}
use Rattle.leaflet.specs.Contents.{Piece, spell, Proper}
use Rattle.leaflet.specs.Faults.{Beginning}
use Rattle.leaflet.specs.Spots.{Spot, outside}
use Rattle.leaflet.proofs.SpotMoves.{Move, move_step}
use Rattle.leaflet.proofs.Runs.{Runs, stays, goes, run_spell}
use Rattle.leaflet.proofs.SpotRests.{Rest, pieces, rest_move, live}

pub same_end : {q p p' : Spot} {i : Item} → Move q i p → Move q i p' → p ≡ p'
same_end m m' = let e = move_step m in let e' = move_step m' in cc

pub run_end : {q p p' : Spot} {is : List Item} → Runs q is p → Runs q is p' → p ≡ p'
run_end stays stays = refl
run_end (goes m r) (goes m' r') = run_end (rw (same_end m m') at r) r'

pub record Split (q r : Spot) (is js : List Item) : Type 0 where
  pub middle : Spot
  pub first : Runs q is middle
  pub second : Runs middle js r

pub run_split : {q r : Spot} (is js : List Item) → Runs q (is ++ js) r → Split q r is js
run_split {q} [] js s = record { middle = q; first = stays; second = s }
run_split (i ∷ is) js (goes m s) =
    let f = run_split is js s in
    record { middle = f.middle; first = goes m f.first; second = f.second }

-- Contents --------------------------------------------------------------------------------------------------------

-- what a reader gets through is followed by what may follow
run_rest : {q p : Spot} {is js : List Item} → Runs q is p → Rest p js → Rest q (is ++ js)
run_rest stays x = x
run_rest (goes m r) x = rest_move m (run_rest r x)

pub record Spelt (is : List Item) : Type 0 where
  pub content : List Piece
  pub proper : Proper content
  pub spelt : is ≡ spell content

rest_spelt : {is : List Item} → Rest outside is → Spelt is
rest_spelt (pieces ps g) = record { content = ps; proper = g; spelt = refl }

-- items through which a reader gets to where it started are spelt by a content
pub run_spelt : {is : List Item} → Runs outside is outside → Spelt is
unfolding spell
run_spelt {is} r = rw append-nil at (rest_spelt (run_rest r (pieces [] tt)))

-- a reader gets through a beginning, and what it gets through is one
pub record Begun (is : List Item) : Type 0 where
  pub spot : Spot
  pub run : Runs outside is spot

pub begun : {is : List Item} → Beginning is → Begun is
begun {is} b =
    let s = run_split is b.later (rw (← b.spelt) at (run_spell b.content b.proper)) in
    record { spot = s.middle; run = s.first }

pub beginning : {q : Spot} {is : List Item} → Runs outside is q → Beginning is
beginning {q} r =
    let l = live q in
    let s = rest_spelt (run_rest r l.rest) in
    record { content = s.content; proper = s.proper; later = l.items; spelt = s.spelt }
