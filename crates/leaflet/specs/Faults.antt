-- Answer 17, and its place: "the byte offset of the first character, tag or ill-formed sequence that no accepted text
-- has after the same beginning, or the text's length." Nothing here speaks of a reader.
--
--   beginning    items that the items of some accepted text begin with
--   longest      the longest beginning that a text starts with: after it comes no item with which it would still be
--                one. So after it stands an item that no accepted text has there; or no item at all, since a "<" that
--                starts none of the six tags, an ill-formed and a truncated sequence are none; or the text's end
--   fault        a text that is not accepted, and the offset at which its longest beginning ends
--   element      a character other than "<", or a tag: what counts as one thing. Whether "<" starts one of
--                the six tags is told by the text alone
--   standing     what stands where the longest beginning ends; the three kinds are proved to be all
--
-- Assumes nothing.
use Rattle.std.specs.Prelude.{◌≡◌, ℕ, true, List, [], ◌∷◌, ◌++◌, length}
use Rattle.rules.specs.Records.{code_ok}
use Rattle.leaflet.specs.Items.{Item, char, tag, less_than, item_bytes, bytes}
use Rattle.leaflet.specs.Contents.{Piece, spell, Proper, Accepted}

pub record Beginning (is : List Item) : Type 0 where
  pub content : List Piece
  pub proper : Proper content
  pub later : List Item
  pub spelt : is ++ later ≡ spell content

pub record LongestBeginning (bs : List ℕ) (is : List Item) : Type 0 where
  pub left : List ℕ
  pub starts : bytes is ++ left ≡ bs
  pub begins : Beginning is
  pub longest : (i : Item) (ds : List ℕ) → item_bytes i ++ ds ≡ left → Beginning (is ++ (i ∷ [])) → ⊥

pub record Fault (bs : List ℕ) (k : ℕ) : Type 0 where
  pub refused : Accepted bs → ⊥
  pub passed : List Item
  pub last : LongestBeginning bs passed
  pub place : k ≡ length (bytes passed)

abbrev pub Element : Item → Type 0
Element (char c) = (code_ok c ≡ true) × (c ≡ less_than → ⊥)
Element (tag t) = Unit {0}

-- after the longest beginning: the end, an element that no accepted text has there, or bytes that start none
pub data Standing (is : List Item) : List ℕ → Type 0 where
  end : Standing is []
  element : (i : Item) (ds : List ℕ) → Element i → (Beginning (is ++ (i ∷ [])) → ⊥) → Standing is (item_bytes i ++ ds)
  no_element : (b : ℕ) (bs : List ℕ) → ((i : Item) (ds : List ℕ) → Element i → item_bytes i ++ ds ≡ b ∷ bs → ⊥) →
      Standing is (b ∷ bs)
