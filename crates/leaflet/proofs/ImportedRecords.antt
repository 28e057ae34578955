-- The records of an import: each stands in the list of its class, and outside groups keeps its own rules where the size
-- does. Assumes nothing.
use Rattle.std.proofs.Common.{◌≡◌, refl, ℕ, suc, ◌*◌, ◌/◌, arith, true, List, [], ◌∷◌, ◌++◌, map, inl, inr, ltb}
use Rattle.std.proofs.Common.{le-leb, eq-eqb}
use Rattle.std.proofs.Math.Bool.{and-eq-true_iff}
use Rattle.lists.specs.Lists.{class_of}
use Rattle.rules.specs.Basics.{whole}
use Rattle.rules.specs.Records.{Rec, size_ok, AdvanceKind, half_size, to_size, to_twice, full_size, advance_kind}
use Rattle.rules.specs.Records.{advance_fits, advance_ok, group_ok, rec_ok}
use Rattle.rules.specs.Meanings.{All, all_none, all_more, Listed}
use Rattle.rules.proofs.Bounds.{SizeBounds, size_bounds}
use Rattle.leaflet.specs.Contents.{text_char, plain_char, listed, Piece, single, group, Each, Proper, reading}
use Rattle.leaflet.specs.Imported.{as_word, advance_by, advance_of, record_of, records_after, word_values, most_word}
use Rattle.std.proofs.lemmas.Bool.{cases_Bool}
use Rattle.leaflet.proofs.Elements.{plain_element}
use Rattle.leaflet.proofs.ListedCodes.{own_list, own_class}

plain_listed : (c : ℕ) → plain_char c ≡ true → listed c ≡ true
unfolding plain_char
plain_listed c e = ((and-eq-true_iff (text_char c) (listed c)).0 e).1

-- a group's number is never 0
numbered : (k : ℕ) → as_word (suc k) ≡ 0 → ⊥
unfolding as_word
numbered k e =
    elim (cases_Bool (ltb (suc k) word_values)) [
      | inl t ↦ let f : suc k ≡ 0 = rw t at e in omega arith
      | inr t ↦ let f : most_word ≡ 0 = rw t at e in omega arith
    ]

-- what holds of the records of plain characters, in no group and in any, holds of every record
module _ (s : ℕ) {P : Rec → Type 0} (alone : (c : ℕ) → plain_char c ≡ true → P (record_of s 0 0 c))
    (grouped : (g n c : ℕ) → (g ≡ 0 → ⊥) → plain_char c ≡ true → P (record_of s g n c)) where
  of_group : (g n : ℕ) (cs : List ℕ) {rs : List Rec} → (g ≡ 0 → ⊥) → Each plain_char cs → All P rs →
      All P (map (record_of s g n) cs ++ rs)
  of_group g n [] z h a = a
  of_group g n (c ∷ cs) z h a = all_more (grouped g n c z h.0) (of_group g n cs z h.1 a)

  of_all : (k : ℕ) (ps : List Piece) → Proper ps → All P (records_after s k (reading ps))
  unfolding records_after reading
  of_all k [] h = all_none
  of_all k (single c ∷ ps) h = all_more (alone c h.0) (of_all k ps h.1)
  of_all k (group b o ∷ ps) h = of_group _ _ (whole b) (numbered k) h.0 (of_all (suc k) ps h.2)

pub records_listed : (s : ℕ) (ps : List Piece) → Proper ps → All Listed (records_after s 0 (reading ps))
records_listed s ps h =
    of_all s (λ c e. own_list c (plain_listed c e)) (λ g n c z e. own_list c (plain_listed c e)) 0 ps h

-- an advance of an import is one that its class may have
kind_fits : (k : AdvanceKind) (s : ℕ) → SizeBounds s → advance_fits k s (advance_by k s) ≡ true
kind_fits half_size s b = eq-eqb (s / 2) (s / 2) refl
kind_fits to_size s b = rw (le-leb 1 (s / 2) (omega (arith, b.least)), le-leb (s / 2) s (omega arith))
kind_fits to_twice s b =
    let a = advance_by to_twice s in
    rw (le-leb 1 a (omega (arith, b.least)), le-leb a (2 * s) (omega arith))
kind_fits full_size s b = eq-eqb s s refl

pub advance_of_ok : (c s : ℕ) → size_ok s ≡ true → advance_ok c s (advance_of c s) ≡ true
unfolding advance_ok advance_of
advance_of_ok c s h = kind_fits (advance_kind c) s (size_bounds s h)

-- a record in no group keeps its own rules
alone_ok : (s c : ℕ) → size_ok s ≡ true → plain_char c ≡ true → rec_ok (record_of s 0 0 c) ≡ true
unfolding rec_ok group_ok
alone_ok s c h e =
    rw ((plain_element c e).0, own_class c (plain_listed c e), h, advance_of_ok (class_of c) s h)

pub records_ok : (s : ℕ) (ps : List Piece) → size_ok s ≡ true → Proper ps →
    All (λ r. r.group ≡ 0 → rec_ok r ≡ true) (records_after s 0 (reading ps))
records_ok s ps h p = of_all s (λ c e z. alone_ok s c h e) (λ g n c y e z. absurd (y z)) 0 ps p
