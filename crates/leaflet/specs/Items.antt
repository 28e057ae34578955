-- What a leaflet's text is made of, and its bytes: "How a leaflet is read" in docs/RULES.md.
--
--   tag          one of six, "bare lower-case tags, end tags written out"
--   item         a character, by its code point, or a tag
--   bytes        the text of items: one after the other, nothing between
--
-- Assumes nothing.
use Rattle.std.specs.Prelude.{ℕ, List, [], ◌∷◌, ◌++◌}
use Rattle.leaflet.specs.Utf8.{utf8}

pub data Tag : Type 0 where
  ruby ruby_end rt rt_end rp rp_end : Tag

pub data Item : Type 0 where
  char : ℕ → Item
  tag : Tag → Item

-- < > &
abbrev pub less_than : ℕ
less_than = 0x3C

abbrev pub greater_than : ℕ
greater_than = 0x3E

abbrev pub ampersand : ℕ
ampersand = 0x26

-- <ruby> </ruby> <rt> </rt> <rp> </rp>
unfoldable pub tag_bytes : Tag → List ℕ
tag_bytes ruby = less_than ∷ 114 ∷ 117 ∷ 98 ∷ 121 ∷ greater_than ∷ []
tag_bytes ruby_end = less_than ∷ 47 ∷ 114 ∷ 117 ∷ 98 ∷ 121 ∷ greater_than ∷ []
tag_bytes rt = less_than ∷ 114 ∷ 116 ∷ greater_than ∷ []
tag_bytes rt_end = less_than ∷ 47 ∷ 114 ∷ 116 ∷ greater_than ∷ []
tag_bytes rp = less_than ∷ 114 ∷ 112 ∷ greater_than ∷ []
tag_bytes rp_end = less_than ∷ 47 ∷ 114 ∷ 112 ∷ greater_than ∷ []

unfoldable pub item_bytes : Item → List ℕ
item_bytes (char c) = utf8 c
item_bytes (tag t) = tag_bytes t

unfoldable pub bytes : List Item → List ℕ
bytes [] = []
bytes (i ∷ is) = item_bytes i ++ bytes is
