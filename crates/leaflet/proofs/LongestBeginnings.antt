-- Where a reader stops is where the longest beginning ends, and no other beginning is the longest. Assumes nothing.
use Rattle.std.proofs.Common.{◌≡◌, refl, sym, ap, ◌∙◌, ℕ, zero, suc, ◌≤◌, arith, List, [], ◌∷◌, ◌++◌, append_assoc}
use Rattle.std.proofs.Common.{append-nil, length, length-append}
use Rattle.leaflet.specs.Items.{Item, item_bytes, bytes}
use Rattle.leaflet.specs.Contents.{spell, Accepted}
use Rattle.leaflet.specs.Faults.{LongestBeginning}
use Rattle.leaflet.specs.Decoding.{next}
use Rattle.leaflet.specs.Spots.{Spot, outside}
use Rattle.leaflet.specs.Reader.{items_of}
use Rattle.leaflet.proofs.SpotMoves.{Move}
use Rattle.leaflet.proofs.Runs.{Runs, stays, goes, run_spell}
use Rattle.leaflet.proofs.Beginnings.{same_end, run_end, run_split, begun, beginning}
use Rattle.leaflet.proofs.NextItem.{next_found}
use Rattle.leaflet.proofs.Elements.{move_element}
use Rattle.leaflet.proofs.Scans.{item_some, Stops, Passed, move_found}

-- items that a text starts with, and no reader could stop short of, start the items that it passes
pub record Starts (is js : List Item) (ds left : List ℕ) : Type 0 where
  pub more : List Item
  pub joins_up : is ++ more ≡ js
  pub rest : ds ≡ bytes more ++ left

agree : {q q' p r : Spot} {is js : List Item} (ds left : List ℕ) → q ≡ q' → Runs q is p → Runs q' js r →
    bytes is ++ ds ≡ bytes js ++ left → Stops r left → Starts is js ds left
unfolding bytes
agree {js = js} ds left z stays b e h = record { more = js; joins_up = refl; rest = e }
agree ds left z (goes {i = i} {is = is} m a) stays e h =
    absurd (h i (bytes is ++ ds) _ (sym (append_assoc (item_bytes i) (bytes is) ds) ∙ e) (rw z at m))
agree ds left z (goes {i = i} {is = is} m a) (goes {i = j} {is = js} n b) e h =
    let f : item_bytes i ++ (bytes is ++ ds) ≡ item_bytes j ++ (bytes js ++ left)
    = sym (append_assoc (item_bytes i) (bytes is) ds) ∙ e ∙ append_assoc (item_bytes j) (bytes js) left in
    let x = move_found _ (bytes is ++ ds) f m in
    let y = move_found _ (bytes js ++ left) refl n in
    let k : i ≡ j = cc in
    let d : bytes is ++ ds ≡ bytes js ++ left = cc in
    let w = agree ds left (same_end (rw (z, k) at m) n) a b d h in
    record { more = w.more; joins_up = λ t. k t ∷ w.joins_up t; rest = w.rest }

-- What a reader passes --------------------------------------------------------------------------------------------

empty_left : (is : List Item) (left : List ℕ) → [] ≡ bytes is ++ left → (is ≡ []) × (left ≡ [])
unfolding bytes
empty_left [] left e = (refl, sym e)
empty_left (i ∷ is) left e =
    absurd (omega (arith, item_some i, simp length-append at (ap length e)))

module _ {bs : List ℕ} (w : Passed outside bs) where
  -- an accepted text is passed whole, and a reader then stands outside
  pub accepted_end : Accepted bs → (w.left ≡ []) × (w.spot ≡ outside)
  accepted_end x =
      let ps = x.content in
      let a = run_spell ps x.spells.proper in
      let e : bytes (spell ps) ++ [] ≡ bytes w.items ++ w.left
      = append-nil _ ∙ x.spells.written ∙ sym w.starts in
      let s = agree [] w.left refl a w.run e w.stops in
      let z = empty_left s.more w.left s.rest in
      let f : spell ps ≡ w.items = sym (append-nil _) ∙ (rw z.0 at s.joins_up) in
      (z.1, run_end w.run (rw f at a))

  -- what is passed is the longest beginning
  pub passed_longest : LongestBeginning bs w.items
  passed_longest =
      record {
        left = w.left;
        starts = w.starts;
        begins = beginning w.run;
        longest = λ i ds e b. stop i ds e (begun b).run;
      }
    where
      one : {q r : Spot} {i : Item} → Runs q (i ∷ []) r → Move q i r
      one (goes m stays) = m

      stop : (i : Item) (ds : List ℕ) → item_bytes i ++ ds ≡ w.left → {r : Spot} →
          Runs outside (w.items ++ (i ∷ [])) r → ⊥
      stop i ds e {r} a =
          let s = run_split w.items (i ∷ []) a in
          w.stops i ds r e (rw (run_end s.first w.run) at (one s.second))

  -- and no other beginning is
  pub longest_only : {is : List Item} → LongestBeginning bs is → is ≡ w.items
  unfolding bytes
  longest_only {is} l =
      let b = begun l.begins in
      let s = agree l.left w.left refl b.run w.run (l.starts ∙ sym w.starts) w.stops in
      by_more s.more s.joins_up s.rest
    where
      by_more : (ks : List Item) → is ++ ks ≡ w.items → l.left ≡ bytes ks ++ w.left → is ≡ w.items
      by_more [] e f = sym (append-nil is) ∙ e
      by_more (k ∷ ks) e f =
          let g : (is ++ (k ∷ [])) ++ ks ≡ w.items = append_assoc is (k ∷ []) ks ∙ e in
          let a = run_split (is ++ (k ∷ [])) ks (rw (← g) at w.run) in
          let d : item_bytes k ++ (bytes ks ++ w.left) ≡ l.left
          = sym (f ∙ append_assoc (item_bytes k) (bytes ks) w.left) in
          absurd (l.longest k _ d (beginning a.first))

-- Items again -----------------------------------------------------------------------------------------------------

pub items_again : {q p : Spot} {is : List Item} (n : ℕ) → Runs q is p → length (bytes is) ≤ n →
    items_of n (bytes is) ≡ is
unfolding items_of bytes next
items_again zero stays h = refl
items_again (suc n) stays h = refl
items_again zero (goes {i = i} {is = is} m a) h =
    absurd (omega (arith, item_some i, length-append (item_bytes i) (bytes is)))
items_again (suc n) (goes {i = i} {is = is} m a) h =
    rw (next_found i (bytes is) (move_element m), items_of)
    (ap (λ t. i ∷ t)
    (items_again n a (omega (arith, item_some i, length-append (item_bytes i) (bytes is)))))
