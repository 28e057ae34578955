-- Table 3-7 of Unicode 15.1, row by row: what its rows find is `utf8` of a scalar value. Assumes nothing.
use Rattle.std.proofs.Common.{◌≡◌, ap, ℕ, ◌+◌, ◌*◌, ◌-◌, ◌/◌, ◌%◌, ◌≤◌, ◌<◌, arith, true, ◌&&◌, List, [], ◌∷◌, ◌++◌}
use Rattle.std.proofs.Common.{◌⊎◌, inl, inr, le-leb}
use Rattle.std.proofs.Math.Bool.{and-eq-true_iff}
use Rattle.rules.specs.Records.{code_ok}
use Rattle.leaflet.specs.Utf8.{more, utf8}
use Rattle.leaflet.specs.Items.{Item, char, tag, item_bytes}
use Rattle.leaflet.specs.Decoding.{Next, nothing, found, low, high, is_continuation, second, two, three}
use Rattle.leaflet.proofs.ByteRanges.{below, above, limits, low_least, high_most}
use Rattle.std.proofs.lemmas.Bool.{cases_Bool, cases_lt}
use Rattle.leaflet.proofs.Utf8Decoded.{one_byte, two_bytes, three_bytes}

-- an item that a text can hold: a scalar value or a tag
abbrev pub Good : Item → Type 0
Good (char c) = code_ok c ≡ true
Good (tag t) = Unit {0}

-- what was found is right
abbrev pub Right : List ℕ → Next → Type 0
Right bs nothing = Unit {0}
Right bs (found i ds) = (item_bytes i ++ ds ≡ bs) × Good i

-- Characters ------------------------------------------------------------------------------------------------------

pub is_code_ok : (c : ℕ) → c ≤ 0x10FFFF → (c < 0xD800) ⊎ (0xDFFF < c) → code_ok c ≡ true
unfolding code_ok
is_code_ok c h (inl k) = rw (le-leb c 0x10FFFF h, below 0xD800 0xDFFF c k)
is_code_ok c h (inr k) = rw (le-leb c 0x10FFFF h, above 0xD800 0xDFFF c k)

pub one_right : (b : ℕ) (bs : List ℕ) → b < 0x80 → Right (b ∷ bs) (found (char b) bs)
unfolding item_bytes
one_right b bs h = (rw (one_byte b h), is_code_ok b (omega arith) (inl (omega arith)))

pub two_right : (b : ℕ) (bs : List ℕ) → 0xC2 ≤ b → b ≤ 0xDF → Right (b ∷ bs) (two b bs)
unfolding two item_bytes
two_right b [] h k = tt
two_right b (x ∷ bs) h k =
    elim (cases_Bool (is_continuation x)) [
      | inl e ↦
          let l = limits 0x80 0xBF x e in
          let c = (b - 192) * 64 + (x - 128) in
          let p : 192 + c / 64 ≡ b = omega arith in
          let q : more c ≡ x = omega arith in
          rw e (rw (two_bytes c (omega arith) (omega arith), p, q), is_code_ok c (omega arith) (inl (omega arith)))
      | inr e ↦ rw e tt
    ]

module _ (b x y : ℕ) (hb : 0xE0 ≤ b) (kb : b ≤ 0xEF) (hx : low b ≤ x) (kx : x ≤ high b)
    (hy : 0x80 ≤ y) (ky : y ≤ 0xBF) where
  three_code : ℕ
  three_code = (b - 224) * 4096 + (x - 128) * 64 + (y - 128)

  three_long : 2048 ≤ three_code
  unfolding three_code
  three_long =
      let l = low_least b in
      elim (cases_lt b 225) [
        | inl h ↦ let e : b ≡ 0xE0 = omega arith in let k : 0xA0 ≤ x = rw e at hx in omega arith
        | inr h ↦ omega arith
      ]

  three_sides : (three_code < 0xD800) ⊎ (0xDFFF < three_code)
  unfolding three_code
  three_sides =
      let l = low_least b in
      let u = high_most b in
      elim (cases_lt b 0xED) [
        | inl h ↦ inl (omega arith)
        | inr h ↦ elim (cases_lt 0xED b) [
          | inl k ↦ inr (omega arith)
          | inr k ↦ let e : b ≡ 0xED = omega arith in let w : x ≤ 0x9F = rw e at kx in inl (omega arith)
        ]
      ]

  three_spelt : utf8 three_code ≡ b ∷ x ∷ y ∷ []
  unfolding three_code
  three_spelt =
      let l = low_least b in
      let u = high_most b in
      let c = (b - 224) * 4096 + (x - 128) * 64 + (y - 128) in
      let p : 224 + c / 4096 ≡ b = omega arith in
      let v : c / 64 ≡ (b - 224) * 64 + (x - 128) = omega arith in
      let q : 128 + c / 64 % 64 ≡ x = rw v (omega arith) in
      let r : 128 + c % 64 ≡ y = omega arith in
      rw (three_bytes c three_long (omega arith), p, q, r)

pub three_right : (b : ℕ) (bs : List ℕ) → 0xE0 ≤ b → b ≤ 0xEF → Right (b ∷ bs) (three b bs)
unfolding three item_bytes three_code
three_right b [] h k = tt
three_right b (x ∷ []) h k = tt
three_right b (x ∷ y ∷ bs) h k =
    elim (cases_Bool (second b x && is_continuation y)) [
      | inl e ↦
          let p = (and-eq-true_iff (second b x) (is_continuation y)).0 e in
          let l = limits (low b) (high b) x p.0 in
          let m = limits 0x80 0xBF y p.1 in
          let u = high_most b in
          rw e (
            ap (λ cs. cs ++ bs) (three_spelt b x y h k l.0 l.1 m.0 m.1),
            is_code_ok (three_code b x y h k l.0 l.1 m.0 m.1) (omega arith)
                (three_sides b x y h k l.0 l.1 m.0 m.1),
          )
      | inr e ↦ rw e tt
    ]
