-- The reader's first half: the item that bytes start with. proofs/Claims.antt says what that is without it.
--
--   low, high    the second byte's range, by the first byte (Unicode 15.1, table 3-7)
--   strip        what follows some bytes, where a text starts with them
--   next         the item that a text starts with, and what follows it; or nothing
--
-- Assumes nothing.
use Rattle.std.specs.Prelude.{ℕ, ◌+◌, ◌*◌, ◌-◌, Bool, cond, ◌&&◌, List, [], ◌∷◌, eqb, ltb, Option, None, Some}
use Rattle.rules.specs.Basics.{within}
use Rattle.leaflet.specs.Items.{Item, char, tag, Tag, less_than, tag_bytes}

pub data Next : Type 0 where
  nothing : Next
  found : Item → List ℕ → Next

abbrev pub low : ℕ → ℕ
low b = cond (eqb b 0xE0) 0xA0 (cond (eqb b 0xF0) 0x90 0x80)

abbrev pub high : ℕ → ℕ
high b = cond (eqb b 0xED) 0x9F (cond (eqb b 0xF4) 0x8F 0xBF)

abbrev pub is_continuation : ℕ → Bool
is_continuation x = within 0x80 0xBF x

abbrev pub second : ℕ → ℕ → Bool
second b x = within (low b) (high b) x

-- the rows of table 3-7 of two, three and four bytes, past the first
unfoldable pub two : ℕ → List ℕ → Next
two b [] = nothing
two b (x ∷ bs) = cond (is_continuation x) (found (char ((b - 192) * 64 + (x - 128))) bs) nothing

unfoldable pub three : ℕ → List ℕ → Next
three b [] = nothing
three b (x ∷ []) = nothing
three b (x ∷ y ∷ bs) =
    cond (second b x && is_continuation y) (found (char ((b - 224) * 4096 + (x - 128) * 64 + (y - 128))) bs) nothing

unfoldable pub four : ℕ → List ℕ → Next
four b [] = nothing
four b (x ∷ []) = nothing
four b (x ∷ y ∷ []) = nothing
four b (x ∷ y ∷ z ∷ bs) =
    cond (second b x && is_continuation y && is_continuation z)
    (found (char ((b - 240) * 262144 + (x - 128) * 4096 + (y - 128) * 64 + (z - 128))) bs)
    nothing

-- "the Unicode standard's table of well-formed sequences", by the first byte
unfoldable pub next_char : ℕ → List ℕ → Next
next_char b bs =
    cond (ltb b 0x80) (found (char b) bs)
    (cond (within 0xC2 0xDF b) (two b bs)
    (cond (within 0xE0 0xEF b) (three b bs)
    (cond (within 0xF0 0xF4 b) (four b bs)
    nothing)))

unfoldable pub strip : List ℕ → List ℕ → Option (List ℕ)
strip [] bs = Some bs
strip (t ∷ ts) [] = None
strip (t ∷ ts) (b ∷ bs) = cond (eqb t b) (strip ts bs) None

-- the tag t where it stands, or else another item
abbrev pub tag_or : Tag → Option (List ℕ) → Next → Next
tag_or t None n = n
tag_or t (Some ds) n = found (tag t) ds

unfoldable pub next_tag : List Tag → List ℕ → Next
next_tag [] bs = nothing
next_tag (t ∷ ts) bs = tag_or t (strip (tag_bytes t) bs) (next_tag ts bs)

abbrev pub all_tags : List Tag
all_tags = Tag.ruby ∷ Tag.ruby_end ∷ Tag.rt ∷ Tag.rt_end ∷ Tag.rp ∷ Tag.rp_end ∷ []

-- "every other angle bracket .. is refused, a tag cut short at its bracket"
unfoldable pub next : List ℕ → Next
next [] = nothing
next (b ∷ bs) = cond (eqb b less_than) (next_tag all_tags (b ∷ bs)) (next_char b bs)
