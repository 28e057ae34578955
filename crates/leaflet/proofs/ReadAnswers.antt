-- What the reader answers, by what a text is: its reading and its records' words, or answer 17's place. Assumes
-- nothing.
use Rattle.std.proofs.Common.{◌≡◌, ap, ◌∙◌, ℕ, true, List, [], ◌∷◌, ◌++◌, ◌↔◌, None, Some}
use Rattle.rules.specs.Records.{code_ok, record_words}
use Rattle.leaflet.specs.Utf8.{utf8}
use Rattle.leaflet.specs.Items.{char, item_bytes}
use Rattle.leaflet.specs.Contents.{Piece, Spells, Accepted, Part, reading}
use Rattle.leaflet.specs.Faults.{Fault}
use Rattle.leaflet.specs.Imported.{imported_records}
use Rattle.leaflet.specs.Decoding.{found}
use Rattle.leaflet.specs.Reader.{parts_in, parts, fault, fault_in, read, words_in}
use Rattle.leaflet.proofs.Decisions.{no_way}
use Rattle.leaflet.proofs.GatheredParts.{parts_spelt}
use Rattle.leaflet.proofs.NextItem.{first_char, char_right, char_back}
use Rattle.leaflet.proofs.AcceptedOrFault.{items_spelt, accepted, refused, told, place_only}

-- table 3-7, as the reader goes by it, tells the bytes of scalar values
pub first_told : (bs : List ℕ) (c : ℕ) (ds : List ℕ) →
    (first_char bs ≡ found (char c) ds) ↔ ((code_ok c ≡ true) × (utf8 c ++ ds ≡ bs))
unfolding item_bytes
first_told bs c ds = (λ e. there bs e, λ h. rw h.1 at (char_back c ds h.0))
  where
    there : (bs : List ℕ) → first_char bs ≡ found (char c) ds → (code_ok c ≡ true) × (utf8 c ++ ds ≡ bs)
    there [] e = no_way (cc)
    there (b ∷ bs) e = let r = rw e at (char_right b bs) in (r.1, r.0)

-- an accepted text's records
pub words_told : (s : ℕ) {bs : List ℕ} {ps : List Piece} → Spells bs ps →
    words_in s bs ≡ record_words (imported_records s (reading ps))
unfolding words_in
words_told s {ps = ps} h =
    ap (λ is. record_words (imported_records s (parts_in is))) (items_spelt h)
    ∙ ap (λ rs. record_words (imported_records s rs)) (parts_spelt ps)

module _ (bs : List ℕ) where
  pub parts_told : (rs : List Part) → read bs ≡ parts rs → (ps : List Piece) × Spells bs ps × (rs ≡ reading ps)
  parts_told rs h =
      elim (told bs) [
        | accepted a d e ↦ (a.content, a.spells, cc)
        | refused k f d e ↦ no_way (cc)
      ]

  pub fault_told : (k : ℕ) → (read bs ≡ fault k) ↔ Fault bs k
  fault_told k = (there, back)
    where
      there : read bs ≡ fault k → Fault bs k
      there h =
          elim (told bs) [
            | accepted a d e ↦ no_way (cc)
            | refused j f d e ↦ let z : j ≡ k = cc in rw z at f
          ]

      back : Fault bs k → read bs ≡ fault k
      back g =
          elim (told bs) [
            | accepted a d e ↦ absurd (g.refused a)
            | refused j f d e ↦ e ∙ ap fault (place_only f g)
          ]

  pub none_told : (fault_in bs ≡ None) ↔ Accepted bs
  none_told = (there, back)
    where
      there : fault_in bs ≡ None → Accepted bs
      there h = elim (told bs) [ accepted a d e ↦ a | refused k f d e ↦ no_way (cc) ]

      back : Accepted bs → fault_in bs ≡ None
      back g = elim (told bs) [ accepted a d e ↦ d | refused k f d e ↦ absurd (f.refused g) ]

  pub some_told : (k : ℕ) → (fault_in bs ≡ Some k) ↔ Fault bs k
  some_told k = (there, back)
    where
      there : fault_in bs ≡ Some k → Fault bs k
      there h = elim (told bs) [ accepted a d e ↦ no_way (cc) | refused j f d e ↦ let z : j ≡ k = cc in rw z at f ]

      back : Fault bs k → fault_in bs ≡ Some k
      back g =
          elim (told bs) [
            | accepted a d e ↦ absurd (g.refused a)
            | refused j f d e ↦ d ∙ ap Some (place_only f g)
          ]
