-- What an answer to records tells of them: 0 that a breaking exists, with the line count; 10 that none does; either
-- that 8, 12 and 9 are not due; 12 that a record is not listed, and that 8 is not due.
-- Assumes nothing.
use Rattle.std.proofs.Common.{◌≡◌, refl, sym, ap, ◌∙◌, ℕ, arith, false, List, [], ◌∷◌, Option, None, Some, length}
use Rattle.rules.specs.Basics.{is_in}
use Rattle.rules.specs.Records.{Rec, bad_record}
use Rattle.rules.specs.Listed.{not_listed}
use Rattle.rules.specs.Groups.{group_fault, units}
use Rattle.rules.specs.Breaks.{no_breaking}
use Rattle.rules.specs.Adjustment.{compose}
use Rattle.rules.specs.Refusals.{Answer, says, or_else, judged}
use Rattle.std.proofs.lemmas.Bool.{true≢false}

abbrev by : Option ℕ → Option ℕ → Option ℕ → Option ℕ → ℕ → Answer
by p l q r n = or_else 8 p (or_else 12 l (or_else 9 q (or_else 10 r (says 0 n))))

-- where 8, 12 and 9 are not due
last_0 : (r : Option ℕ) (n : ℕ) → (by None None None r n).number ≡ 0 → (r ≡ None) × (by None None None r n ≡ says 0 n)
last_0 None n e = (refl, refl)
last_0 (Some i) n e = absurd (omega (arith, e))

last_10 : (r : Option ℕ) (n : ℕ) → (by None None None r n).number ≡ 10 → r ≡ Some (by None None None r n).place
last_10 None n e = absurd (omega (arith, e))
last_10 (Some i) n e = refl

by_12 : (p l q r : Option ℕ) (n : ℕ) → (by p l q r n).number ≡ 12 → (p ≡ None) × (l ≡ Some (by p l q r n).place)
by_12 None None None None n e = absurd (omega (arith, e))
by_12 None None None (Some i) n e = absurd (omega (arith, e))
by_12 None None (Some i) r n e = absurd (omega (arith, e))
by_12 None (Some i) q r n e = (refl, refl)
by_12 (Some i) l q r n e = absurd (omega (arith, e))

-- where the answer is another than 8, 12 and 9, none of these is due
by_passes : (p l q r : Option ℕ) (n k : ℕ) → is_in k (8 ∷ 12 ∷ 9 ∷ []) ≡ false → (by p l q r n).number ≡ k →
    (p ≡ None) × (l ≡ None) × (q ≡ None)
by_passes None None None r n k h e = (refl, refl, refl)
by_passes None None (Some i) r n k h e = absurd (true≢false (rw (sym e) at h))
by_passes None (Some i) q r n k h e = absurd (true≢false (rw (sym e) at h))
by_passes (Some i) l q r n k h e = absurd (true≢false (rw (sym e) at h))

-- answers 8, 12 and 9 are not due
pub record Past9 (rs : List Rec) : Type 0 where
  pub records : bad_record 0 rs ≡ None
  pub listed : not_listed 0 rs ≡ None
  pub groups : group_fault rs ≡ None

module _ (m x : ℕ) (rs : List Rec) where
  pub judged_passes : (k : ℕ) → is_in k (8 ∷ 12 ∷ 9 ∷ []) ≡ false → (judged m x rs).number ≡ k → Past9 rs
  unfolding judged
  judged_passes k h e =
      let r = no_breaking m x (units rs) in
      let p = by_passes (bad_record 0 rs) (not_listed 0 rs) (group_fault rs) r (length (compose m x (units rs))) k h e
      in
      record { records = p.0; listed = p.1; groups = p.2 }

  pub judged_0 : (judged m x rs).number ≡ 0 →
      (no_breaking m x (units rs) ≡ None) × (judged m x rs ≡ says 0 (length (compose m x (units rs))))
  unfolding judged
  judged_0 e =
      let p = judged_passes 0 refl e in
      rw (p.records, p.listed, p.groups) (last_0 _ _ (rw (p.records, p.listed, p.groups) at e))

  -- an accepted paragraph is answered by its line count
  pub line_count : (p : ℕ) → judged m x rs ≡ says 0 p → p ≡ length (compose m x (units rs))
  line_count p e = ap (λ a. a.place) (sym e ∙ (judged_0 (ap (λ a. a.number) e)).1)

  pub judged_12 : (judged m x rs).number ≡ 12 →
      (bad_record 0 rs ≡ None) × (not_listed 0 rs ≡ Some (judged m x rs).place)
  unfolding judged
  judged_12 e =
      by_12 (bad_record 0 rs) (not_listed 0 rs) (group_fault rs) (no_breaking m x (units rs))
      (length (compose m x (units rs))) e

  pub judged_10 : (judged m x rs).number ≡ 10 → no_breaking m x (units rs) ≡ Some (judged m x rs).place
  unfolding judged
  judged_10 e =
      let p = judged_passes 10 refl e in
      rw (p.records, p.listed, p.groups) (last_10 _ _ (rw (p.records, p.listed, p.groups) at e))
