-- How a worked text is written, and the test of a row. A text stands as it is read; its bytes are `utf8` of its code
-- points.
--
--   accepted     a text, and its parts: `each` character outside ruby elements, and a base text `under` a number of
--                ruby characters
--   refused      a text in two, before answer 17's place and from it on, and the place
--   ill-formed   the same, with bytes from the place on
--   computed     one name for all that a worked text opens
--
-- Assumes nothing.
use Rattle.std.proofs.Common.{ℕ, Bool, true, false, ◌&&◌, List, [], ◌∷◌, ◌++◌, map, eqb, length}
use Prim.Native.Char.{code}
use Prim.Native.String.{String, [] as []ₛ, ◌∷◌ as ◌∷ₛ◌}
use Rattle.lists.specs.Lists.{lists, in_list, class_of}
use Rattle.lists.proofs.Decisions.{same}
use Rattle.rules.specs.Basics.{whole}
use Rattle.rules.specs.Records.{code_ok, advance_kind, record_words}
use Rattle.leaflet.specs.Utf8.{utf8}
use Rattle.leaflet.specs.Items.{tag_bytes, item_bytes}
use Rattle.leaflet.specs.Contents.{listed, text_char, plain_char, Part, character, annotated}
use Rattle.leaflet.specs.Imported.{as_word, advance_of, records_after}
use Rattle.leaflet.specs.Decoding.{two, three, four, next_char, strip, next_tag, next}
use Rattle.leaflet.specs.Spots.{step}
use Rattle.leaflet.specs.Reader.{scan, fault_in, items_of, gathered, parts_in, Answer, parts, fault, read, words_in}

abbrev codes : String → List ℕ
codes []ₛ = []
codes (c ∷ₛ s) = code c ∷ codes s

abbrev encoded : List ℕ → List ℕ
encoded [] = []
encoded (c ∷ cs) = utf8 c ++ encoded cs

abbrev pub bytes_of : String → List ℕ
bytes_of s = encoded (codes s)

pub data Row : Type 0 where
  accepted : String → List Part → Row
  stops : List ℕ → List ℕ → ℕ → Row

abbrev pub each : String → List Part
each s = map character (codes s)

abbrev pub under : String → ℕ → List Part
under s n = runs (codes s)
  where
    runs : List ℕ → List Part
    runs [] = []
    runs (c ∷ cs) = annotated (record { first = c; rest = cs }) n ∷ []

abbrev pub refused : String → String → ℕ → Row
refused s t k = stops (bytes_of s) (bytes_of t) k

abbrev pub ill_formed : String → List ℕ → ℕ → Row
ill_formed s bs k = stops (bytes_of s) bs k

abbrev same_part : Part → Part → Bool
same_part (character c) (character d) = eqb c d
same_part (character c) (annotated b n) = false
same_part (annotated b n) (character c) = false
same_part (annotated b n) (annotated d m) = same (whole b) (whole d) && eqb n m

abbrev same_parts : List Part → List Part → Bool
same_parts [] [] = true
same_parts [] (q ∷ qs) = false
same_parts (p ∷ ps) [] = false
same_parts (p ∷ ps) (q ∷ qs) = same_part p q && same_parts ps qs

abbrev same_answer : Answer → Answer → Bool
same_answer (parts ps) (parts qs) = same_parts ps qs
same_answer (parts ps) (fault k) = false
same_answer (fault k) (parts ps) = false
same_answer (fault j) (fault k) = eqb j k

abbrev right_row : Row → Bool
right_row (accepted s ps) = same_answer (read (bytes_of s)) (parts ps)
right_row (stops bs ds k) = same_answer (read (bs ++ ds)) (fault k) && eqb (length bs) k

abbrev pub right : List Row → Bool
right [] = true
right (r ∷ rs) = right_row r && right rs

unfoldable pub computed : Unit {0}
unfolding
    lists in_list class_of code_ok advance_kind record_words utf8 tag_bytes item_bytes listed text_char plain_char
    as_word
    advance_of records_after two three four next_char strip next_tag next step scan fault_in items_of gathered parts_in
    read
    words_in
computed = tt
