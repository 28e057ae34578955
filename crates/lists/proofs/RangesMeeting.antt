-- What an interval of code points leaves of the lists: the ranges that meet it. No question at a code point of the
-- interval sees a difference.
-- Assumes nothing.
use Rattle.std.proofs.Common.{◌≡◌, refl, sym, ap, ◌∙◌, Bool, true, false, ◌&&◌, ◌||◌, List, [], ◌∷◌, ℕ, ◌+◌, ◌≤◌, ◌<◌}
use Rattle.std.proofs.Common.{arith, leb, ltb, ltb-false, leb-false}
use Rattle.std.proofs.Math.Bool.{and-false}
use borrow.Author.Tests.{lt-leb}
use Rattle.lists.specs.Ranges.{Range, range, in_range, has_code}
use Rattle.lists.specs.Lists.{ClassList, list}
use Rattle.lists.specs.Entries.{also, classes_with}

-- a range has a code point among the n from lo on
abbrev pub meets : ℕ → ℕ → Range → Bool
meets lo n (range a b) = ltb a (lo + n) && leb lo b

abbrev pub ranges_meeting : ℕ → ℕ → List Range → List Range
ranges_meeting lo n [] = []
ranges_meeting lo n (r ∷ rs) = also (meets lo n r) r (ranges_meeting lo n rs)

-- a list with no range left is dropped
abbrev pub keep_list : ℕ → List Range → List ClassList → List ClassList
keep_list c [] ls = ls
keep_list c (r ∷ rs) ls = list c (r ∷ rs) ∷ ls

abbrev pub lists_meeting : ℕ → ℕ → List ClassList → List ClassList
lists_meeting lo n [] = []
lists_meeting lo n (list c rs ∷ ls) = keep_list c (ranges_meeting lo n rs) (lists_meeting lo n ls)

-- a code point of the interval is in no range that does not meet it
missed : (lo n k : ℕ) → lo ≤ k → k < lo + n → (a b : ℕ) → meets lo n (range a b) ≡ false →
    in_range k (range a b) ≡ false
missed lo n k h g a b e = cases (ltb a (lo + n)) refl (leb lo b) refl e
  where
    cases : (s : Bool) → ltb a (lo + n) ≡ s → (t : Bool) → leb lo b ≡ t → (s && t) ≡ false →
        (leb a k && leb k b) ≡ false
    cases true p true q e = cc
    cases true p false q e =
        let f : leb k b ≡ false = lt-leb k b (omega (arith, leb-false lo b q)) in rw f (and-false (leb a k))
    cases false p t q e = let f : leb a k ≡ false = lt-leb a k (omega (arith, ltb-false a (lo + n) p)) in rw f

meeting_has : (lo n k : ℕ) → lo ≤ k → k < lo + n → (rs : List Range) →
    has_code k (ranges_meeting lo n rs) ≡ has_code k rs
meeting_has lo n k h g [] = refl
meeting_has lo n k h g (range a b ∷ rs) = cases (meets lo n (range a b)) refl (meeting_has lo n k h g rs)
  where
    cases : (t : Bool) → meets lo n (range a b) ≡ t → has_code k (ranges_meeting lo n rs) ≡ has_code k rs →
        has_code k (also t (range a b) (ranges_meeting lo n rs)) ≡ (in_range k (range a b) || has_code k rs)
    cases true p e = ap (λ t. in_range k (range a b) || t) e
    cases false p e = e ∙ sym (ap (λ t. t || has_code k rs) (missed lo n k h g a b p))

keep_list_with : (k c : ℕ) (rs : List Range) (ls : List ClassList) →
    classes_with k (keep_list c rs ls) ≡ also (has_code k rs) c (classes_with k ls)
keep_list_with k c [] ls = refl
keep_list_with k c (r ∷ rs) ls = refl

pub meeting_classes : (lo n k : ℕ) → lo ≤ k → k < lo + n → (ls : List ClassList) →
    classes_with k (lists_meeting lo n ls) ≡ classes_with k ls
meeting_classes lo n k h g [] = refl
meeting_classes lo n k h g (list c rs ∷ ls) =
    keep_list_with k c (ranges_meeting lo n rs) (lists_meeting lo n ls)
    ∙ rw (meeting_has lo n k h g rs, meeting_classes lo n k h g ls)
