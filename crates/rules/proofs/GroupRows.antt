-- The two rows of a group as rows that are set: where their items stand, that each stays within the group, and what
-- docs/RULES.md, "Where the characters of a group stand", asks of them. Assumes nothing.
use Rattle.std.proofs.Common.{◌≡◌, refl, ap, ◌∙◌, ℕ, zero, suc, ◌+◌, ◌*◌, ◌-◌, ◌/◌, ◌≤◌, ◌<◌, arith, add-zero}
use Rattle.std.proofs.Common.{zero-add, add-suc, suc-add, add_assoc, zero-mul, suc-mul, List, [], ◌∷◌, ◌++◌, map}
use Rattle.std.proofs.Common.{length, get_or, length-append}
use Rattle.rules.specs.Basics.{whole}
use Rattle.rules.specs.Records.{Rec}
use Rattle.rules.specs.Groups.{TextUnit, count, advances, base_total, ruby_total, group_advance, advance}
use Rattle.rules.specs.Groups.{base_offset, offsets, base_offsets, ruby_offset}
use Rattle.rules.specs.SpaceBetween.{offset_of, advance_of, SpaceBetween, Centred, Solid}
use Rattle.rules.proofs.SetRows.{SetRow, row_within, row_between, row_centred, row_solid}

-- The base row -----------------------------------------------------------------------------------------------------

-- the solid offset of record k: what the advances of those before it add up to
abbrev solid : List Rec → ℕ → ℕ
solid [] k = 0
solid (r ∷ rs) zero = 0
solid (r ∷ rs) (suc k) = r.advance + solid rs k

solid_next : (rs : List Rec) (k : ℕ) → solid rs (suc k) ≡ solid rs k + get_or (map (λ r. r.advance) rs) k 0
solid_next [] k = refl
solid_next (r ∷ []) zero = omega arith
solid_next (r ∷ p ∷ rs) zero = omega arith
solid_next (r ∷ rs) (suc k) = omega (arith, solid_next rs k)

solid_all : (rs : List Rec) → solid rs (length rs) ≡ advances rs
unfolding advances
solid_all [] = refl
solid_all (r ∷ rs) = ap (λ n. r.advance + n) (solid_all rs)

module _ (base ruby s n : ℕ) where
  offset_at : (k x : ℕ) (rs : List Rec) (i : ℕ) → i < length rs →
      get_or (offsets base ruby s n k x rs) i 0 ≡ base_offset base ruby s n (k + i) (x + solid rs i)
  unfolding offsets
  offset_at k x [] i h = omega arith
  offset_at k x (r ∷ rs) zero h = rw (add-zero, add-zero)
  offset_at k x (r ∷ rs) (suc i) h =
      rw (add-suc, ← suc-add, ← add_assoc) (offset_at (suc k) (x + r.advance) rs i (omega arith))

module _ (u : TextUnit) where
  base_set : SetRow (count u) (ruby_total u.first.ruby u.first.size - base_total u) (advance u)
      (offset_of u) (advance_of u) (solid (whole u))
  unfolding base_offsets base_offset advance group_advance
  base_set =
      record {
        stands = λ k h.
            offset_at (base_total u) u.first.ruby u.first.size (count u) 0 0 (whole u) k h
            ∙ rw (zero-add, zero-add);
        first = refl;
        next = solid_next (whole u);
        end = omega (arith, solid_all (whole u));
      }

  -- a record r of the unit ends within the group
  pub base_within : (rs : List Rec) (r : Rec) (qs : List Rec) → whole u ≡ rs ++ r ∷ qs →
      get_or (base_offsets u) (length rs) 0 + r.advance ≤ advance u
  base_within rs r qs e =
      let k : length rs < count u = omega (arith, ap length e, length-append rs (r ∷ qs)) in
      let its = ap (λ ps. get_or (map (λ p. p.advance) ps) (length rs) 0) e ∙ its_advance rs in
      omega (arith, row_within base_set (length rs) k, its)
    where
      its_advance : (rs : List Rec) → get_or (map (λ p. p.advance) (rs ++ r ∷ qs)) (length rs) 0 ≡ r.advance
      its_advance [] = refl
      its_advance (p ∷ rs) = its_advance rs

  pub base_between : 2 ≤ count u → SpaceBetween (count u) (offset_of u) (advance_of u) (advance u)
  base_between many = row_between base_set many

  pub base_centred : count u ≡ 1 → Centred (offset_of u 0) (advance_of u 0) (advance u)
  base_centred one = row_centred base_set one

  pub base_solid : ruby_total u.first.ruby u.first.size ≤ base_total u →
      Solid (count u) (offset_of u) (advance_of u)
  base_solid longer = row_solid base_set (omega arith) (omega arith)

-- The ruby row -----------------------------------------------------------------------------------------------------

module _ (base n s : ℕ) where
  ruby_set : SetRow n (base - ruby_total n s) (group_advance base n s)
      (ruby_offset base n s) (λ k. s / 2) (λ k. k * (s / 2))
  unfolding ruby_offset group_advance
  ruby_set =
      record {
        stands = λ k h. refl;
        first = zero-mul (s / 2);
        next = λ k. suc-mul k (s / 2);
        end = omega arith;
      }

  -- a ruby character, half the size wide, ends within the group
  pub ruby_within : (k : ℕ) → k < n → ruby_offset base n s k + s / 2 ≤ group_advance base n s
  ruby_within k h = row_within ruby_set k h

  pub ruby_between : 2 ≤ n → SpaceBetween n (ruby_offset base n s) (λ k. s / 2) (group_advance base n s)
  ruby_between many = row_between ruby_set many

  pub ruby_centred : n ≡ 1 → Centred (ruby_offset base n s 0) (s / 2) (group_advance base n s)
  ruby_centred one = row_centred ruby_set one

  pub ruby_solid : base ≤ ruby_total n s → 0 < n → Solid n (ruby_offset base n s) (λ k. s / 2)
  ruby_solid longer any = row_solid ruby_set (omega arith) any
