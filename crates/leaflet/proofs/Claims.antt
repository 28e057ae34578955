-- What is proved of leaflets ("How a leaflet is read" in docs/RULES.md), in reading order: of texts and answer 17's
-- place, which speak of no reader; of the records that an import hands to edit; of the reader; and of the program. The
-- definitions that the statements name are those of specs/Utf8, Items, Contents, Faults and Imported; `first_char` of
-- proofs/NextItem, the rows of Unicode's table; and, from the reader on, `read`, `fault_in` and `words_in` of
-- specs/Reader. Assumes nothing.
use Rattle.std.proofs.Common.{◌≡◌, sym, ap, ◌∙◌, ℕ, true, List, ◌++◌, ◌⊎◌, inl, inr, ◌↔◌, None, Some}
use Rattle.lists.specs.Lists.{lists}
use Rattle.lists.specs.Meanings.{Belongs}
use Rattle.rules.specs.Records.{code_ok, size_ok, advance_ok, rec_ok, record_words}
use Rattle.rules.specs.Meanings.{All, Listed}
use Rattle.leaflet.specs.Utf8.{utf8}
use Rattle.leaflet.specs.Items.{char}
use Rattle.leaflet.specs.Contents.{listed, Piece, Spells, Accepted, Part, reading}
use Rattle.leaflet.specs.Faults.{Fault, Standing}
use Rattle.leaflet.specs.Imported.{advance_of, imported_records}
use Rattle.leaflet.specs.Decoding.{found}
use Rattle.leaflet.specs.Reader.{parts, fault, fault_in, read, words_in}
use Rattle.leaflet.proofs.OneContent.{spell_same}
use Rattle.leaflet.proofs.NextItem.{first_char}
use Rattle.leaflet.proofs.AcceptedOrFault.{items_spelt, accepted, refused, told, place_only}
use Rattle.leaflet.proofs.Standings.{standing}
use Rattle.leaflet.proofs.ReadAnswers.{first_told, words_told, parts_told, fault_told, none_told, some_told}
use Rattle.leaflet.proofs.ListedCodes.{some_list}
use Rattle.leaflet.proofs.ImportedRecords.{records_listed, advance_of_ok, records_ok}
use Rattle.leaflet.proofs.Worked.{bytes_of, right}
use Rattle.leaflet.proofs.Examples.{texts, texts_hold, small, small_words, words_hold}
use Rattle.leaflet.proofs.reader.read_leaflet.Statement as read_leaflet_contract
use Rattle.leaflet.proofs.reader.read_leaflet.Met as read_leaflet_met

-- Characters ------------------------------------------------------------------------------------------------------

-- "Malformed UTF-8 is judged by the Unicode standard's table of well-formed sequences": the rows of table 3-7 find a
-- code point exactly where a text starts with the bytes of a scalar value
pub table_right : (bs : List ℕ) (c : ℕ) (ds : List ℕ) →
    (first_char bs ≡ found (char c) ds) ↔ ((code_ok c ≡ true) × (utf8 c ++ ds ≡ bs))
table_right bs c ds = first_told bs c ds

-- "in no list": `listed`, by which a base or plain character is judged, holds exactly where some class's list has it
pub listed_means : (c : ℕ) → (listed c ≡ true) ↔ ((d : ℕ) × Belongs d c lists)
listed_means c = some_list c

-- Texts -----------------------------------------------------------------------------------------------------------

-- "one text has one reading": one content, and so one reading
pub one_content : (bs : List ℕ) (ps qs : List Piece) → Spells bs ps → Spells bs qs → ps ≡ qs
one_content bs ps qs a b = spell_same ps qs (sym (items_spelt a) ∙ items_spelt b)

pub one_reading : (bs : List ℕ) (ps qs : List Piece) → Spells bs ps → Spells bs qs → reading ps ≡ reading qs
one_reading bs ps qs a b = ap reading (one_content bs ps qs a b)

-- each text is accepted or has a fault, never both, and the fault has one place
pub accepted_or_fault : (bs : List ℕ) → Accepted bs ⊎ ((k : ℕ) × Fault bs k)
accepted_or_fault bs = elim (told bs) [ accepted a d e ↦ inl a | refused k f d e ↦ inr (k, f) ]

pub never_both : (bs : List ℕ) (k : ℕ) → Accepted bs → Fault bs k → ⊥
never_both bs k a f = f.refused a

pub one_place : (bs : List ℕ) (j k : ℕ) → Fault bs j → Fault bs k → j ≡ k
one_place bs j k f g = place_only f g

-- at the place stands the text's end, "a character, tag .. that no accepted text has after the same beginning", or
-- bytes that start none: a bracket of no tag, an ill-formed sequence
pub fault_stands : (bs : List ℕ) (k : ℕ) (f : Fault bs k) → Standing f.passed f.last.left
fault_stands bs k f = standing f.last

-- Records ---------------------------------------------------------------------------------------------------------

-- each record of an accepted text stands in the list of its class, so answer 12 is never due for an import
pub imported_listed : (s : ℕ) (bs : List ℕ) (ps : List Piece) → Spells bs ps →
    All Listed (imported_records s (reading ps))
imported_listed s bs ps h = records_listed s ps h.proper

-- where the size keeps its rule, so does every advance
pub imported_advances : (c s : ℕ) → size_ok s ≡ true → advance_ok c s (advance_of c s) ≡ true
imported_advances c s h = advance_of_ok c s h

-- so for a record in no group answer 8 is never due: it is left to groups, which may be too many, have too many ruby
-- characters, or a base character of a class that no group may have
pub imported_ok : (s : ℕ) (bs : List ℕ) (ps : List Piece) → size_ok s ≡ true → Spells bs ps →
    All (λ r. r.group ≡ 0 → rec_ok r ≡ true) (imported_records s (reading ps))
imported_ok s bs ps h k = records_ok s ps h k.proper

-- The reader ------------------------------------------------------------------------------------------------------

-- the reader gives an accepted text's reading
pub read_accepted : (bs : List ℕ) (ps : List Piece) → Spells bs ps → read bs ≡ parts (reading ps)
read_accepted bs ps s =
    elim (told bs) [
      | accepted a d e ↦ e ∙ ap parts (one_reading bs a.content ps a.spells s)
      | refused k f d e ↦ absurd (f.refused (record { content = ps; spells = s }))
    ]

-- and whatever it reads is one
pub read_parts : (bs : List ℕ) (rs : List Part) → read bs ≡ parts rs →
    (ps : List Piece) × Spells bs ps × (rs ≡ reading ps)
read_parts bs rs h = parts_told bs rs h

-- the reader gives answer 17's place, and to no accepted text
pub read_fault : (bs : List ℕ) (k : ℕ) → (read bs ≡ fault k) ↔ Fault bs k
read_fault bs k = fault_told bs k

-- texts come out as they were worked by hand, and the words of a small one
pub worked : right texts ≡ true
worked = texts_hold

pub words_worked : words_in 80 (bytes_of small) ≡ small_words
words_worked = words_hold

-- The program -----------------------------------------------------------------------------------------------------

-- its contract speaks of `fault_in` and `words_in`. `fault_in` is none of an accepted text, and else answer 17's place
pub fault_none : (bs : List ℕ) → (fault_in bs ≡ None) ↔ Accepted bs
fault_none bs = none_told bs

pub fault_some : (bs : List ℕ) (k : ℕ) → (fault_in bs ≡ Some k) ↔ Fault bs k
fault_some bs k = some_told bs k

-- `words_in` of an accepted text are the words of its reading's records
pub words_spelt : (s : ℕ) (bs : List ℕ) (ps : List Piece) → Spells bs ps →
    words_in s bs ≡ record_words (imported_records s (reading ps))
words_spelt s bs ps h = words_told s h

-- and the program meets its contract, for any bytes, size and words
pub read_leaflet_meets : {M : Type 1} → read_leaflet_contract.statement M
read_leaflet_meets = read_leaflet_met.met
