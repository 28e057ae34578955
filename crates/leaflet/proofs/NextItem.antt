-- What `next` finds in a text is the item whose bytes the text starts with, and no such item escapes it. Assumes
-- nothing.
use Rattle.std.proofs.Common.{◌≡◌, refl, ◌∙◌, ℕ, ◌<◌, arith, true, List, [], ◌∷◌, ◌++◌, inl, inr, Option, None, Some}
use Rattle.std.proofs.Common.{ltb, eqb, lt-ltb, ltb-true, eqb-true, ne_eqb}
use Rattle.rules.specs.Basics.{within}
use Rattle.rules.specs.Records.{code_ok}
use Rattle.leaflet.specs.Utf8.{utf8}
use Rattle.leaflet.specs.Items.{Item, char, tag, Tag, tag_bytes, item_bytes, less_than}
use Rattle.leaflet.specs.Faults.{Element}
use Rattle.leaflet.specs.Decoding.{Next, nothing, found, next_char, strip, tag_or, next_tag, all_tags, next}
use Rattle.leaflet.proofs.ByteRanges.{limits}
use Rattle.std.proofs.lemmas.Bool.{cases_Bool}
use Rattle.leaflet.proofs.Utf8Decoded.{width, of_one, of_two, of_three, of_four, one_byte, two_bytes}
use Rattle.leaflet.proofs.Utf8Decoded.{three_bytes}
use Rattle.leaflet.proofs.Utf8Decoded.{four_bytes, code_ok_sides, back_two, back_three, back_four}
use Rattle.leaflet.proofs.Utf8Rows.{Right, one_right, two_right, three_right}
use Rattle.leaflet.proofs.Utf8FourBytes.{four_right}

-- What is found is right ------------------------------------------------------------------------------------------

pub char_right : (b : ℕ) (bs : List ℕ) → Right (b ∷ bs) (next_char b bs)
unfolding next_char
char_right b bs =
    elim (cases_Bool (ltb b 0x80)) [
      | inl e ↦ rw e (one_right b bs (ltb-true b 0x80 e))
      | inr e ↦ elim (cases_Bool (within 0xC2 0xDF b)) [
        | inl d ↦ let l = limits 0xC2 0xDF b d in rw (e, d) (two_right b bs l.0 l.1)
        | inr d ↦ elim (cases_Bool (within 0xE0 0xEF b)) [
          | inl f ↦ let l = limits 0xE0 0xEF b f in rw (e, d, f) (three_right b bs l.0 l.1)
          | inr f ↦ elim (cases_Bool (within 0xF0 0xF4 b)) [
            | inl g ↦ let l = limits 0xF0 0xF4 b g in rw (e, d, f, g) (four_right b bs l.0 l.1)
            | inr g ↦ rw (e, d, f, g) tt
          ]
        ]
      ]
    ]

abbrev Follows : List ℕ → List ℕ → Option (List ℕ) → Type 0
Follows ts bs None = Unit {0}
Follows ts bs (Some ds) = ts ++ ds ≡ bs

follows_more : {t b : ℕ} (ts bs : List ℕ) (o : Option (List ℕ)) → t ≡ b → Follows ts bs o → Follows (t ∷ ts) (b ∷ bs) o
follows_more ts bs None e f = tt
follows_more ts bs (Some ds) e f = λ i. e i ∷ f i

strip_follows : (ts bs : List ℕ) → Follows ts bs (strip ts bs)
unfolding strip
strip_follows [] bs = refl
strip_follows (t ∷ ts) [] = tt
strip_follows (t ∷ ts) (b ∷ bs) =
    elim (cases_Bool (eqb t b)) [
      | inl e ↦ rw e (follows_more ts bs (strip ts bs) (eqb-true t b e) (strip_follows ts bs))
      | inr e ↦ rw e tt
    ]

or_right : (t : Tag) (bs : List ℕ) (o : Option (List ℕ)) (n : Next) → Follows (tag_bytes t) bs o → Right bs n →
    Right bs (tag_or t o n)
unfolding item_bytes
or_right t bs None n f r = r
or_right t bs (Some ds) n f r = (f, tt)

tag_right : (ts : List Tag) (bs : List ℕ) → Right bs (next_tag ts bs)
unfolding next_tag
tag_right [] bs = tt
tag_right (t ∷ ts) bs =
    or_right t bs (strip (tag_bytes t) bs) (next_tag ts bs) (strip_follows (tag_bytes t) bs) (tag_right ts bs)

pub next_right : (bs : List ℕ) → Right bs (next bs)
unfolding next
next_right [] = tt
next_right (b ∷ bs) =
    elim (cases_Bool (eqb b less_than)) [ inl e ↦ rw e (tag_right all_tags (b ∷ bs)) | inr e ↦ rw e (char_right b bs) ]

-- And all is found ------------------------------------------------------------------------------------------------

tag_found : (t : Tag) (ds : List ℕ) → next (tag_bytes t ++ ds) ≡ found (tag t) ds
unfolding next next_tag strip tag_bytes
tag_found Tag.ruby ds = refl
tag_found Tag.ruby_end ds = refl
tag_found Tag.rt ds = refl
tag_found Tag.rt_end ds = refl
tag_found Tag.rp ds = refl
tag_found Tag.rp_end ds = refl

next_is_char : (b : ℕ) (bs : List ℕ) → (b ≡ less_than → ⊥) → next (b ∷ bs) ≡ next_char b bs
unfolding next
next_is_char b bs h = rw (ne_eqb b less_than h)

back_one : (c : ℕ) (ds : List ℕ) → c < 128 → next_char c ds ≡ found (char c) ds
unfolding next_char
back_one c ds h = rw (lt-ltb c 0x80 h)

-- the character that a text starts with, by table 3-7 alone
abbrev pub first_char : List ℕ → Next
first_char [] = nothing
first_char (b ∷ bs) = next_char b bs

pub char_back : (c : ℕ) (ds : List ℕ) → code_ok c ≡ true → first_char (utf8 c ++ ds) ≡ found (char c) ds
char_back c ds s =
    elim (width c) [
      | of_one k ↦ rw (one_byte c k) (back_one c ds k)
      | of_two k l ↦ rw (two_bytes c k l) (back_two c ds k l)
      | of_three k l ↦ rw (three_bytes c k l) (back_three c ds s k l)
      | of_four k ↦ rw (four_bytes c k) (back_four c ds k (code_ok_sides c s).0)
    ]

-- no character but "<" starts with the byte 60
next_first_char : (c : ℕ) (ds : List ℕ) → (c ≡ less_than → ⊥) → next (utf8 c ++ ds) ≡ first_char (utf8 c ++ ds)
next_first_char c ds h =
    elim (width c) [
      | of_one k ↦ rw (one_byte c k) (next_is_char c ds h)
      | of_two k l ↦ rw (two_bytes c k l) (next_is_char _ _ (λ e. omega arith))
      | of_three k l ↦ rw (three_bytes c k l) (next_is_char _ _ (λ e. omega arith))
      | of_four k ↦ rw (four_bytes c k) (next_is_char _ _ (λ e. omega arith))
    ]

pub next_found : (i : Item) (ds : List ℕ) → Element i → next (item_bytes i ++ ds) ≡ found i ds
unfolding item_bytes
next_found (char c) ds h = next_first_char c ds h.1 ∙ char_back c ds h.0
next_found (tag t) ds h = tag_found t ds
