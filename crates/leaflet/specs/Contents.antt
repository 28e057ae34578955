-- What a leaflet says, how it is written, and how it is read: "How a leaflet is read" in docs/RULES.md. Nothing here
-- speaks of a reader.
--
--   listed       some published list has the code point: it gets a class
--   text char    what may stand inside rt and rp: "any code point but angle brackets and ampersands"
--   plain char   what may stand outside them: such a code point that is listed
--   annotation   what stands over a base text: an rt, bare, or fenced by an rp on both sides
--   piece        a plain character, or a ruby element: a base text and its annotation
--   content      pieces; `spell` writes it as items
--   proper       every character may stand where it stands
--   accepted     the text of a proper content
--   part         what is kept of a piece: a plain character, or a base text with the rt's character count
--   reading      the parts of a content, in order
--
-- Assumes nothing.
use Rattle.std.specs.Prelude.{◌≡◌, ℕ, Bool, true, not, ◌&&◌, ◌||◌, List, [], ◌∷◌, eqb, length}
use Rattle.lists.specs.Lists.{class_of}
use Rattle.rules.specs.Basics.{Run, whole}
use Rattle.rules.specs.Records.{code_ok}
use Rattle.leaflet.specs.Items.{Item, char, tag, Tag, less_than, greater_than, ampersand, bytes}

unfoldable pub listed : ℕ → Bool
listed c = not (eqb (class_of c) 0)

abbrev pub bracket : ℕ → Bool
bracket c = eqb c less_than || eqb c greater_than || eqb c ampersand

-- "inside them any code point but angle brackets and ampersands may, each as one character"
unfoldable pub text_char : ℕ → Bool
text_char c = code_ok c && not (bracket c)

-- "A base or plain character in no list .. is refused", and "every other angle bracket or ampersand" too, though the
-- list of Western characters has them
unfoldable pub plain_char : ℕ → Bool
plain_char c = text_char c && listed c

-- "An rp, empty or not, stands on both sides of the rt or on neither"
pub data Annotation : Type 0 where
  bare : Run ℕ → Annotation
  fenced : List ℕ → Run ℕ → List ℕ → Annotation

-- "Each ruby element holds one base text and one rt, neither empty"; "no nesting"
pub data Piece : Type 0 where
  single : ℕ → Piece
  group : Run ℕ → Annotation → Piece

-- characters, and then other items
abbrev pub chars : List ℕ → List Item → List Item
chars [] is = is
chars (c ∷ cs) is = char c ∷ chars cs is

-- "After the base text no other text, not even white space, stands outside rt and rp"
abbrev pub spell_annotation : Annotation → List Item → List Item
spell_annotation (bare t) is = tag Tag.rt ∷ chars (whole t) (tag Tag.rt_end ∷ is)
spell_annotation (fenced p t q) is =
    tag Tag.rp ∷ chars p (tag Tag.rp_end ∷ tag Tag.rt ∷ chars (whole t) (tag Tag.rt_end ∷
    tag Tag.rp ∷ chars q (tag Tag.rp_end ∷ is)))

unfoldable pub spell : List Piece → List Item
spell [] = []
spell (single c ∷ ps) = char c ∷ spell ps
spell (group b o ∷ ps) = tag Tag.ruby ∷ chars (whole b) (spell_annotation o (tag Tag.ruby_end ∷ spell ps))

-- every code point passes a test
abbrev pub Each : (ℕ → Bool) → List ℕ → Type 0
Each f [] = Unit {0}
Each f (c ∷ cs) = (f c ≡ true) × Each f cs

abbrev pub ProperAnnotation : Annotation → Type 0
ProperAnnotation (bare t) = Each text_char (whole t)
ProperAnnotation (fenced p t q) = Each text_char p × Each text_char (whole t) × Each text_char q

abbrev pub Proper : List Piece → Type 0
Proper [] = Unit {0}
Proper (single c ∷ ps) = (plain_char c ≡ true) × Proper ps
Proper (group b o ∷ ps) = Each plain_char (whole b) × ProperAnnotation o × Proper ps

-- a text that is accepted, and the content that it spells
pub record Spells (bs : List ℕ) (ps : List Piece) : Type 0 where
  pub proper : Proper ps
  pub written : bytes (spell ps) ≡ bs

pub record Accepted (bs : List ℕ) : Type 0 where
  pub content : List Piece
  pub spells : Spells bs content

-- "its text is dropped", "of the rt only its character count is kept"
pub data Part : Type 0 where
  character : ℕ → Part
  annotated : (base : Run ℕ) (ruby : ℕ) → Part

abbrev pub count : Annotation → ℕ
count (bare t) = length (whole t)
count (fenced p t q) = length (whole t)

abbrev pub part_of : Piece → Part
part_of (single c) = character c
part_of (group b o) = annotated b (count o)

unfoldable pub reading : List Piece → List Part
reading [] = []
reading (p ∷ ps) = part_of p ∷ reading ps
