-- Table 3-7 of Unicode 15.1: what its rows of four bytes find is `utf8` of a scalar value. Assumes nothing.
use Rattle.std.proofs.Common.{◌≡◌, ap, ℕ, ◌+◌, ◌*◌, ◌-◌, ◌/◌, ◌%◌, ◌≤◌, arith, ◌&&◌, List, [], ◌∷◌, ◌++◌, inl, inr}
use Rattle.std.proofs.Math.Bool.{and-eq-true_iff}
use Rattle.leaflet.specs.Utf8.{utf8}
use Rattle.leaflet.specs.Items.{item_bytes}
use Rattle.leaflet.specs.Decoding.{low, high, is_continuation, second, four}
use Rattle.leaflet.proofs.ByteRanges.{limits, low_least, high_most}
use Rattle.std.proofs.lemmas.Bool.{cases_Bool, cases_lt}
use Rattle.leaflet.proofs.Utf8Decoded.{four_bytes}
use Rattle.leaflet.proofs.Utf8Rows.{Right, is_code_ok}

module _ (b x y z : ℕ) (hb : 0xF0 ≤ b) (kb : b ≤ 0xF4) (hx : low b ≤ x) (kx : x ≤ high b)
    (hy : 0x80 ≤ y) (ky : y ≤ 0xBF) (hz : 0x80 ≤ z) (kz : z ≤ 0xBF) where
  four_code : ℕ
  four_code = (b - 240) * 262144 + (x - 128) * 4096 + (y - 128) * 64 + (z - 128)

  four_long : 65536 ≤ four_code
  unfolding four_code
  four_long =
      let l = low_least b in
      elim (cases_lt b 241) [
        | inl h ↦ let e : b ≡ 0xF0 = omega arith in let k : 0x90 ≤ x = rw e at hx in omega arith
        | inr h ↦ omega arith
      ]

  four_short : four_code ≤ 0x10FFFF
  unfolding four_code
  four_short =
      let l = low_least b in
      let u = high_most b in
      elim (cases_lt b 0xF4) [
        | inl h ↦ omega arith
        | inr h ↦ let e : b ≡ 0xF4 = omega arith in let k : x ≤ 0x8F = rw e at kx in omega arith
      ]

  four_spelt : utf8 four_code ≡ b ∷ x ∷ y ∷ z ∷ []
  unfolding four_code
  four_spelt =
      let l = low_least b in
      let u = high_most b in
      let c = (b - 240) * 262144 + (x - 128) * 4096 + (y - 128) * 64 + (z - 128) in
      let p : 240 + c / 262144 ≡ b = omega arith in
      let v : c / 4096 ≡ (b - 240) * 64 + (x - 128) = omega arith in
      let w : c / 64 ≡ (b - 240) * 4096 + (x - 128) * 64 + (y - 128) = omega arith in
      let q : 128 + c / 4096 % 64 ≡ x = rw v (omega arith) in
      let r : 128 + c / 64 % 64 ≡ y = rw w (omega arith) in
      let s : 128 + c % 64 ≡ z = omega arith in
      rw (four_bytes c four_long, p, q, r, s)

pub four_right : (b : ℕ) (bs : List ℕ) → 0xF0 ≤ b → b ≤ 0xF4 → Right (b ∷ bs) (four b bs)
unfolding four item_bytes four_code
four_right b [] h k = tt
four_right b (x ∷ []) h k = tt
four_right b (x ∷ y ∷ []) h k = tt
four_right b (x ∷ y ∷ z ∷ bs) h k =
    elim (cases_Bool (second b x && is_continuation y && is_continuation z)) [
      | inl e ↦
          let r = (and-eq-true_iff (second b x && is_continuation y) (is_continuation z)).0 e in
          let p = (and-eq-true_iff (second b x) (is_continuation y)).0 r.0 in
          let l = limits (low b) (high b) x p.0 in
          let m = limits 0x80 0xBF y p.1 in
          let n = limits 0x80 0xBF z r.1 in
          let t = four_long b x y z h k l.0 l.1 m.0 m.1 n.0 n.1 in
          rw e (
            ap (λ cs. cs ++ bs) (four_spelt b x y z h k l.0 l.1 m.0 m.1 n.0 n.1),
            is_code_ok (four_code b x y z h k l.0 l.1 m.0 m.1 n.0 n.1)
                (four_short b x y z h k l.0 l.1 m.0 m.1 n.0 n.1) (inr (omega arith)),
          )
      | inr e ↦ rw e tt
    ]
