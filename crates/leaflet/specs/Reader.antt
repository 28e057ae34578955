-- The reader: item by item, from the text's start. proofs/Claims.antt says what it gives without it.
--
--   scan         answer 17's place, or none, of what is left of a text: n bounds its length, q is the spot, k the
--                offset
--   fault from   the same, with the bound that is always enough; `fault_in` of a whole text
--   items of     the items that a text starts with, as many as a bound; `items_from` with one that is always enough
--   gathered     items read from the last to the first: the characters since the last tag, the count of the rt since
--                the last ruby element, and the parts
--   read         a text's parts, or its fault
--   words in     the words of the records of a text's parts: all that an import hands to edit
--
-- Assumes nothing.
use Rattle.std.specs.Prelude.{ℕ, zero, suc, ◌+◌, Bool, true, false, cond, ◌&&◌, List, [], ◌∷◌, length}
use Rattle.std.specs.Prelude.{Option, None, Some}
use Rattle.rules.specs.Records.{record_words}
use Rattle.leaflet.specs.Items.{Item, char, tag, Tag, item_bytes}
use Rattle.leaflet.specs.Contents.{Part, character, annotated}
use Rattle.leaflet.specs.Imported.{imported_records}
use Rattle.leaflet.specs.Decoding.{nothing, found, next}
use Rattle.leaflet.specs.Spots.{Spot, outside, step, is_outside}

abbrev pub is_empty : List ℕ → Bool
is_empty [] = true
is_empty (b ∷ bs) = false

-- no item goes on: a fault here, but at the end of a text with no element open
abbrev pub ended : Spot → ℕ → List ℕ → Option ℕ
ended q k bs = cond (is_outside q && is_empty bs) None (Some k)

unfoldable pub scan : ℕ → Spot → ℕ → List ℕ → Option ℕ
scan zero q k bs = ended q k bs
scan (suc n) q k bs =
    elim (next bs) [
      | nothing ↦ ended q k bs
      | found i ds ↦ elim (step q i) [ None ↦ Some k | Some p ↦ scan n p (k + length (item_bytes i)) ds ]
    ]

-- of what is left of a text, and of a whole text
abbrev pub fault_from : Spot → ℕ → List ℕ → Option ℕ
fault_from q k bs = scan (length bs) q k bs

unfoldable pub fault_in : List ℕ → Option ℕ
fault_in bs = fault_from outside 0 bs

unfoldable pub items_of : ℕ → List ℕ → List Item
items_of zero bs = []
items_of (suc n) bs = elim (next bs) [ nothing ↦ [] | found i ds ↦ i ∷ items_of n ds ]

abbrev pub items_from : List ℕ → List Item
items_from bs = items_of (length bs) bs

pub record Gathered : Type 0 where
  pub characters : List ℕ
  pub ruby : ℕ
  pub parts : List Part

-- characters outside ruby elements, each as one part
abbrev pub singles : List ℕ → List Part → List Part
singles [] ps = ps
singles (c ∷ cs) ps = character c ∷ singles cs ps

abbrev pub grouped : List ℕ → ℕ → List Part → List Part
grouped [] n ps = ps
grouped (c ∷ cs) n ps = annotated (record { first = c; rest = cs }) n ∷ ps

abbrev pub gather : Item → Gathered → Gathered
gather (char c) g = record { characters = c ∷ g.characters; ruby = g.ruby; parts = g.parts }
gather (tag Tag.ruby) g = record { characters = []; ruby = 0; parts = grouped g.characters g.ruby g.parts }
gather (tag Tag.ruby_end) g = record { characters = []; ruby = 0; parts = singles g.characters g.parts }
gather (tag Tag.rt) g = record { characters = []; ruby = length g.characters; parts = g.parts }
gather (tag Tag.rt_end) g = record { characters = []; ruby = 0; parts = g.parts }
gather (tag Tag.rp) g = record { characters = []; ruby = g.ruby; parts = g.parts }
gather (tag Tag.rp_end) g = record { characters = []; ruby = g.ruby; parts = g.parts }

unfoldable pub gathered : List Item → Gathered
gathered [] = record { characters = []; ruby = 0; parts = [] }
gathered (i ∷ is) = gather i (gathered is)

unfoldable pub parts_in : List Item → List Part
parts_in is = let g = gathered is in singles g.characters g.parts

pub data Answer : Type 0 where
  parts : List Part → Answer
  fault : ℕ → Answer

-- what a scan came to
abbrev pub answered : List ℕ → Option ℕ → Answer
answered bs None = parts (parts_in (items_from bs))
answered bs (Some k) = fault k

unfoldable pub read : List ℕ → Answer
read bs = answered bs (fault_in bs)

-- of size s; of a text that is not accepted it says nothing
unfoldable pub words_in : ℕ → List ℕ → List ℕ
words_in s bs = record_words (imported_records s (parts_in (items_from bs)))
