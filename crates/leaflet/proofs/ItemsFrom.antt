-- The items of a text, by its first. Assumes nothing.
use Rattle.std.proofs.Common.{◌≡◌, refl, sym, ap, ◌∙◌, arith, ℕ, zero, suc, ◌≤◌, Bool, true, false}
use Rattle.std.proofs.Common.{List, [], ◌∷◌, length, take, drop}
use Rattle.std.proofs.Math.Numerals.{one-add}
use Rattle.std.specs.List.{prefix_len}
use Rattle.std.proofs.lemmas.List.Folds.{length-prefix_len}
use Rattle.leaflet.specs.Items.{Item, Tag, char, tag}
use Rattle.leaflet.specs.Decoding.{Next, nothing, found, next}
use Rattle.leaflet.specs.Reader.{items_of, items_from}
use Rattle.leaflet.specs.Written.{chars_before_tag, rt_ahead}
use Rattle.leaflet.proofs.Scans.{item_some}
use Rattle.leaflet.proofs.FaultSteps.{next_shorter}

items_none : (n : ℕ) (bs : List ℕ) → next bs ≡ nothing → items_of n bs ≡ []
unfolding items_of
items_none zero bs e = refl
items_none (suc n) bs e = rw (e, items_of)

items_one : (n : ℕ) (bs : List ℕ) (i : Item) (ds : List ℕ) → next bs ≡ found i ds →
    items_of (suc n) bs ≡ i ∷ items_of n ds
unfolding items_of
items_one n bs i ds e = rw (e, items_of)

-- a bound that is enough may be any
module _ (n m : ℕ) (less : (ds : List ℕ) → length ds ≤ n → length ds ≤ m → items_of n ds ≡ items_of m ds) (bs : List ℕ)
    (h : length bs ≤ suc n) (l : length bs ≤ suc m) where
  by_next : (f : Next) → next bs ≡ f → items_of (suc n) bs ≡ items_of (suc m) bs
  by_next nothing e = items_none (suc n) bs e ∙ sym (items_none (suc m) bs e)
  by_next (found i ds) e =
      let w = next_shorter bs i ds e in
      let x = item_some i in
      items_one n bs i ds e ∙ ap (λ is. i ∷ is) (less ds (omega arith) (omega arith)) ∙ sym (items_one m bs i ds e)

items_bound : (n m : ℕ) (bs : List ℕ) → length bs ≤ n → length bs ≤ m → items_of n bs ≡ items_of m bs
unfolding next
items_bound zero m [] h l = items_none 0 [] refl ∙ sym (items_none m [] refl)
items_bound zero m (b ∷ bs) h l = absurd (omega arith)
items_bound (suc n) zero [] h l = items_none (suc n) [] refl ∙ sym (items_none 0 [] refl)
items_bound (suc n) zero (b ∷ bs) h l = absurd (omega arith)
items_bound (suc n) (suc m) bs h l = by_next n m (λ ds. items_bound n m ds) bs h l (next bs) refl

pub items_next : (bs : List ℕ) (i : Item) (ds : List ℕ) → next bs ≡ found i ds → items_from bs ≡ i ∷ items_from ds
items_next bs i ds e =
    let w = next_shorter bs i ds e in
    items_bound (length bs) (suc (length bs)) bs (omega arith) (omega arith) ∙ items_one (length bs) bs i ds e
    ∙ ap (λ is. i ∷ is) (items_bound (length bs) (length ds) ds (omega arith) (omega arith))

pub items_end : (bs : List ℕ) → next bs ≡ nothing → items_from bs ≡ []
items_end bs e = items_none (length bs) bs e

-- no text starts with more items than it has bytes
items_few : (n : ℕ) (bs : List ℕ) → length (items_of n bs) ≤ n
unfolding items_of
items_few zero bs = omega arith
items_few (suc n) bs = by_next n bs (λ ds. items_few n ds) (next bs) refl
  where
    by_next : (n : ℕ) (bs : List ℕ) → ((ds : List ℕ) → length (items_of n ds) ≤ n) → (f : Next) → next bs ≡ f →
        length (items_of (suc n) bs) ≤ suc n
    by_next n bs less nothing e = rw (items_none (suc n) bs e) (omega arith)
    by_next n bs less (found i ds) e = rw (items_one n bs i ds e) (omega (arith, less ds))

pub items_fit : (bs : List ℕ) → length (items_from bs) ≤ length bs
items_fit bs = items_few (length bs) bs

-- What stands in the next rt, as the program takes it -----------------------------------------------------------------

abbrev pub is_char : Item → Bool
is_char (char c) = true
is_char (tag t) = false

abbrev pub is_no_rt : Item → Bool
is_no_rt (char c) = true
is_no_rt (tag Tag.ruby) = true
is_no_rt (tag Tag.ruby_end) = true
is_no_rt (tag Tag.rt) = false
is_no_rt (tag Tag.rt_end) = true
is_no_rt (tag Tag.rp) = true
is_no_rt (tag Tag.rp_end) = true

chars_counted : (is : List Item) → prefix_len is_char is ≡ chars_before_tag is
unfolding chars_before_tag
chars_counted [] = refl
chars_counted (char c ∷ is) = omega (arith, chars_counted is)
chars_counted (tag t ∷ is) = refl

abbrev pub past_rt : List Item → List Item
past_rt is = drop 1 (drop (prefix_len is_no_rt is) is)

rt_counted : (is : List Item) → prefix_len is_char (past_rt is) ≡ rt_ahead is
unfolding rt_ahead
rt_counted [] = refl
rt_counted (char c ∷ is) = rw (one-add _) (rt_counted is)
rt_counted (tag Tag.ruby ∷ is) = rw (one-add _) (rt_counted is)
rt_counted (tag Tag.ruby_end ∷ is) = rw (one-add _) (rt_counted is)
rt_counted (tag Tag.rt ∷ is) = chars_counted is
rt_counted (tag Tag.rt_end ∷ is) = rw (one-add _) (rt_counted is)
rt_counted (tag Tag.rp ∷ is) = rw (one-add _) (rt_counted is)
rt_counted (tag Tag.rp_end ∷ is) = rw (one-add _) (rt_counted is)

pub rt_taken : (is : List Item) → length (take (prefix_len is_char (past_rt is)) (past_rt is)) ≡ rt_ahead is
rt_taken is = length-prefix_len is_char (past_rt is) ∙ rt_counted is
