-- The tag that a text starts with, as the program's search for it tells it. Assumes nothing.
use Rattle.std.proofs.Common.{◌≡◌, refl, sym, ap, ◌∙◌, ℕ, ◌+◌, ◌<◌, ◌≤◌, true, false, inl, inr, add-one, List, []}
use Rattle.std.proofs.Common.{◌∷◌, ◌++◌, map, length, take, drop, get_or, Option, Some, None, Bor, eqb, eq-eqb}
use Rattle.std.proofs.Common.{drop_of_length-le, drop-cons, eqb-true}
use Rattle.std.specs.Option.{MatchOption}
use Rattle.std.specs.Cmp.Lexicographic.{pointwise}
use Rattle.std.proofs.lemmas.Bool.Decides.{Decides-eqb}
use Rattle.std.proofs.lemmas.Slice.Eq.{strip_prefix_is}
use Rattle.leaflet.specs.Items.{tag, tag_bytes}
use Rattle.leaflet.specs.Decoding.{Next, nothing, found, strip, next_tag}
use Rattle.leaflet.specs.Enums.{tag_of}
use Rattle.leaflet.specs.declared.spots.Tag.{Tag as TagEnum}
use Rattle.std.proofs.lemmas.Bool.{cases_Bool}

strip_front : (p rest : List ℕ) → strip p (p ++ rest) ≡ Some rest
unfolding strip
strip_front [] rest = refl
strip_front (t ∷ p) rest = rw (eq-eqb t t refl) (strip_front p rest)

strip_other : (p bs : List ℕ) → ((rest : List ℕ) → bs ≡ p ++ rest → ⊥) → strip p bs ≡ None
unfolding strip
strip_other [] bs h = absurd (h bs refl)
strip_other (t ∷ p) [] h = refl
strip_other (t ∷ p) (b ∷ bs) h =
    elim (cases_Bool (eqb t b)) [
      | inl e ↦ let z : t ≡ b = eqb-true t b e in rw e (strip_other p bs (λ rest f. h rest (cc)))
      | inr e ↦ rw e
    ]

-- what `strip_prefix` says
abbrev Told : List ℕ → List ℕ → Option (Bor (List ℕ)) → Type 0
Told bs p r =
    MatchOption r (pointwise eqb (take (length p) bs) p ≡ false)
    (λ x. (pointwise eqb (take (length p) bs) p ≡ true) × (x.now ≡ drop (length p) bs)
    × (length x.now + length p ≡ length bs))

-- of the tags from the i-th on
module _ (bs : List ℕ) (ts : List TagEnum) (i : ℕ) (d : TagEnum) {w : Next}
    (l : next_tag (map tag_of (drop i ts)) bs ≡ w) (h : i < length ts) where
  first : next_tag (tag_of (get_or ts i d) ∷ map tag_of (drop (i + 1) ts)) bs ≡ w
  first =
      ap (λ j. next_tag (tag_of (get_or ts i d) ∷ map tag_of (drop j ts)) bs) (add-one i)
      ∙ ap (λ us. next_tag (map tag_of us) bs) (sym (drop-cons ts i d h)) ∙ l

  module _ {p : List ℕ} (e : p ≡ tag_bytes (tag_of (get_or ts i d))) {r : Option (Bor (List ℕ))} (told : Told bs p r)
    where
      pub tag_here : {x : Bor (List ℕ)} → r ≡ Some x → found (tag (tag_of (get_or ts i d))) x.now ≡ w
      unfolding next_tag
      tag_here {x} z =
          let a : bs ≡ p ++ x.now = rw z at (strip_prefix_is Decides-eqb bs p r told) in
          let b : strip (tag_bytes (tag_of (get_or ts i d))) bs ≡ Some x.now
          = ap (λ q. strip q bs) (sym e) ∙ ap (strip p) a ∙ strip_front p x.now in
          rw (next_tag, b) at first

      pub tag_not : r ≡ None → next_tag (map tag_of (drop (i + 1) ts)) bs ≡ w
      unfolding next_tag
      tag_not z =
          let a : (rest : List ℕ) → bs ≡ p ++ rest → ⊥ = rw z at (strip_prefix_is Decides-eqb bs p r told) in
          let b : strip (tag_bytes (tag_of (get_or ts i d))) bs ≡ None
          = ap (λ q. strip q bs) (sym e) ∙ strip_other p bs a in
          rw (next_tag, b) at first

-- where none is left, none stands there
pub tags_past : (bs : List ℕ) {w : Next} (i : ℕ) (ts : List TagEnum) → length ts ≤ i →
    next_tag (map tag_of (drop i ts)) bs ≡ w → nothing ≡ w
unfolding next_tag
tags_past bs i ts h l = rw (drop_of_length-le ts h) at l
