-- A giving back's outcome. Assumes nothing.
use Rattle.std.proofs.Common.{◌≡◌, ap, ◌∙◌, List, [], ◌∷◌, append-nil, true, false, ℕ, ◌-◌, arith, length, take, drop}
use Rattle.std.proofs.Common.{length-drop, drop_of_length-le, length-take-le}
use borrow.Rule.Slice.PartMut.{put_mid}
use Rattle.rules.specs.Basics.{zeros}
use Rattle.rules.specs.Layout.{slot_length, record_count_at}
use Rattle.rules.specs.Sheet.{clinic_of, measure_of, indent_of}
use Rattle.rules.specs.Refusals.{Answer, says, Outcome, sound}
use Rattle.rules.specs.Pool.{give_back_rows, give_back_slot}
use Rattle.slot.proofs.WordPieces.{eight}

module _ (s : List ℕ) where
  pub gives_4 : (number place : ℕ) → sound s ≡ false → (number ≡ 4) × (place ≡ 0) →
      ◌≡◌ {A = Outcome Answer} (says number place, s) (give_back_slot s)
  unfolding give_back_slot give_back_rows
  gives_4 number place a e = rw (a, e.0, e.1)

  -- the words from the fourth on cleared
  pub gives_emptied : (number place : ℕ) (last : List ℕ) → length s ≡ slot_length → sound s ≡ true →
      last ≡ zeros (length (take (length s - record_count_at) (drop record_count_at s))) → (number ≡ 0) × (place ≡ 0) →
      ◌≡◌ {A = Outcome Answer} (says number place, put_mid record_count_at (length s - record_count_at) s last)
      (give_back_slot s)
  unfolding give_back_slot give_back_rows
  gives_emptied number place last len a e z =
      let n : length (take (length s - 3) (drop 3 s)) ≡ 2821
      = length-take-le (length s - 3) (drop 3 s) (omega (arith, length-drop 3 s)) ∙ omega arith in
      let first : take 3 s ≡ clinic_of s ∷ measure_of s ∷ indent_of s ∷ [] = ap (take 3) (eight s (omega arith)) in
      let rest : drop (length s - 3) (drop 3 s) ≡ []
      = drop_of_length-le (drop 3 s) {i = length s - 3} (omega (arith, length-drop 3 s)) in
      rw (z.0, z.1, a, e, n, first, rest, append-nil)
