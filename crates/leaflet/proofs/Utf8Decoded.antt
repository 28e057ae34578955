-- Table 3-7 of Unicode 15.1 is `utf8` of the scalar values: `next` finds a character's code point in its bytes. Assumes
-- nothing.
use Rattle.std.proofs.Common.{◌≡◌, sym, ◌∙◌, ℕ, ◌+◌, ◌*◌, ◌-◌, ◌/◌, ◌≤◌, ◌<◌, arith, true, not, List, [], ◌∷◌, ◌⊎◌}
use Rattle.std.proofs.Common.{inl, inr, leb, lt-ltb, le-ltb, leb-true}
use Rattle.std.proofs.Math.Bool.{and-eq-true_iff}
use borrow.Author.Tests.{not-true}
use Rattle.rules.specs.Basics.{within}
use Rattle.rules.specs.Records.{code_ok}
use Rattle.leaflet.specs.Utf8.{more, utf8}
use Rattle.leaflet.specs.Items.{char}
use Rattle.leaflet.specs.Decoding.{found, low, high, two, three, four, next_char}
use Rattle.leaflet.proofs.ByteRanges.{inside, above, low_under, under_high}
use Rattle.std.proofs.lemmas.Bool.{cases_lt, true≢false}

-- a scalar value is below the surrogates or above them
pub code_ok_sides : (c : ℕ) → code_ok c ≡ true → (c ≤ 0x10FFFF) × ((c < 0xD800) ⊎ (0xDFFF < c))
unfolding code_ok
code_ok_sides c e = (leb-true c 0x10FFFF p.0, sides)
  where
    p : (leb c 0x10FFFF ≡ true) × (not (within 0xD800 0xDFFF c) ≡ true)
    p = (and-eq-true_iff (leb c 0x10FFFF) (not (within 0xD800 0xDFFF c))).0 e

    sides : (c < 0xD800) ⊎ (0xDFFF < c)
    sides =
        elim (cases_lt c 0xD800) [
          | inl h ↦ inl h
          | inr h ↦ elim (cases_lt 0xDFFF c) [
            | inl k ↦ inr k
            | inr k ↦ absurd (true≢false (sym (inside 0xD800 0xDFFF c h k) ∙ not-true _ p.1))
          ]
        ]

-- the bytes of a code point, by their number
pub data Width (c : ℕ) : Type 0 where
  of_one : c < 128 → Width c
  of_two : 128 ≤ c → c < 2048 → Width c
  of_three : 2048 ≤ c → c < 65536 → Width c
  of_four : 65536 ≤ c → Width c

pub width : (c : ℕ) → Width c
width c =
    elim (cases_lt c 128) [
      | inl k ↦ of_one k
      | inr k ↦ elim (cases_lt c 2048) [
        | inl l ↦ of_two k l
        | inr l ↦ elim (cases_lt c 65536) [ inl m ↦ of_three l m | inr m ↦ of_four m ]
      ]
    ]

pub one_byte : (c : ℕ) → c < 128 → utf8 c ≡ c ∷ []
unfolding utf8
one_byte c h = simp (lt-ltb c 128 h)

pub two_bytes : (c : ℕ) → 128 ≤ c → c < 2048 → utf8 c ≡ (192 + c / 64) ∷ more c ∷ []
unfolding utf8
two_bytes c h k = simp (le-ltb c 128 h, lt-ltb c 2048 k)

pub three_bytes : (c : ℕ) → 2048 ≤ c → c < 65536 → utf8 c ≡ (224 + c / 4096) ∷ more (c / 64) ∷ more c ∷ []
unfolding utf8
three_bytes c h k = simp (le-ltb c 128 (omega arith), le-ltb c 2048 h, lt-ltb c 65536 k)

pub four_bytes : (c : ℕ) → 65536 ≤ c → utf8 c ≡ (240 + c / 262144) ∷ more (c / 4096) ∷ more (c / 64) ∷ more c ∷ []
unfolding utf8
four_bytes c h = simp (le-ltb c 128 (omega arith), le-ltb c 2048 (omega arith), le-ltb c 65536 h)

-- From a code point to its bytes and back -------------------------------------------------------------------------

pub back_two : (c : ℕ) (ds : List ℕ) → 128 ≤ c → c < 2048 →
    next_char (192 + c / 64) (more c ∷ ds) ≡ found (char c) ds
unfolding next_char two
back_two c ds h k =
    let e : (192 + c / 64 - 192) * 64 + (more c - 128) ≡ c = omega arith in
    rw (
      le-ltb (192 + c / 64) 0x80 (omega arith),
      inside 0xC2 0xDF (192 + c / 64) (omega arith) (omega arith),
      inside 0x80 0xBF (more c) (omega arith) (omega arith),
      e,
    )

pub back_three : (c : ℕ) (ds : List ℕ) → code_ok c ≡ true → 2048 ≤ c → c < 65536 →
    next_char (224 + c / 4096) (more (c / 64) ∷ more c ∷ ds) ≡ found (char c) ds
unfolding next_char three
back_three c ds s h k =
    let b = 224 + c / 4096 in
    let e : (b - 224) * 4096 + (more (c / 64) - 128) * 64 + (more c - 128) ≡ c = omega arith in
    let l : low b ≤ more (c / 64) = low_under b (more (c / 64)) (λ z. omega arith) (λ z. omega arith) (omega arith) in
    let u : more (c / 64) ≤ high b =
    elim (code_ok_sides c s).1 [
      | inl z ↦ under_high b (more (c / 64)) (λ y. omega arith) (λ y. omega arith) (omega arith)
      | inr z ↦ under_high b (more (c / 64)) (λ y. omega arith) (λ y. omega arith) (omega arith)
    ] in
    rw (
      le-ltb b 0x80 (omega arith),
      above 0xC2 0xDF b (omega arith),
      inside 0xE0 0xEF b (omega arith) (omega arith),
      inside (low b) (high b) (more (c / 64)) l u,
      inside 0x80 0xBF (more c) (omega arith) (omega arith),
      e,
    )

pub back_four : (c : ℕ) (ds : List ℕ) → 65536 ≤ c → c ≤ 0x10FFFF →
    next_char (240 + c / 262144) (more (c / 4096) ∷ more (c / 64) ∷ more c ∷ ds) ≡ found (char c) ds
unfolding next_char four
back_four c ds h k =
    let b = 240 + c / 262144 in
    let x = more (c / 4096) in
    let v : c / 64 / 64 ≡ c / 4096 = omega arith in
    let w : c / 4096 / 64 ≡ c / 262144 = omega arith in
    let e : (b - 240) * 262144 + (x - 128) * 4096 + (more (c / 64) - 128) * 64 + (more c - 128) ≡ c = omega arith in
    let l : low b ≤ x = low_under b x (λ z. omega arith) (λ z. omega arith) (omega arith) in
    let u : x ≤ high b = under_high b x (λ y. omega arith) (λ y. omega arith) (omega arith) in
    rw (
      le-ltb b 0x80 (omega arith),
      above 0xC2 0xDF b (omega arith),
      above 0xE0 0xEF b (omega arith),
      inside 0xF0 0xF4 b (omega arith) (omega arith),
      inside (low b) (high b) x l u,
      inside 0x80 0xBF (more (c / 64)) (omega arith) (omega arith),
      inside 0x80 0xBF (more c) (omega arith) (omega arith),
      e,
    )
