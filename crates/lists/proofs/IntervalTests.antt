-- A test that the lists give a function's classes at each code point of an interval, which the checker computes by
-- halves, each half with the ranges that meet it; and what a passed test says.
-- Assumes nothing.
use Rattle.std.proofs.Common.{◌≡◌, sym, ◌∙◌, Bool, true, ◌&&◌, List, ℕ, zero, suc, ◌+◌, ◌≤◌, ◌<◌, arith, inl, inr}
use Rattle.std.proofs.Math.Bool.{and-eq-true_iff}
use Rattle.lists.specs.Lists.{ClassList}
use Rattle.lists.specs.Entries.{classes_with}
use Rattle.std.proofs.lemmas.Bool.{cases_lt}
use Rattle.std.specs.Cmp.Lexicographic.{same_text}
use Rattle.lists.proofs.Decisions.{same}
use Rattle.lists.proofs.RangesMeeting.{lists_meeting, meeting_classes}

-- 2 to the d
abbrev pub two_to : ℕ → ℕ
two_to zero = 1
two_to (suc d) = two_to d + two_to d

-- the lists give f's classes at each of the 2 to the d code points from lo on
abbrev pub agree : (ℕ → List ℕ) → ℕ → ℕ → List ClassList → Bool
agree f zero lo ls = same (classes_with lo ls) (f lo)
agree f (suc d) lo ls =
    agree f d lo (lists_meeting lo (two_to d) ls)
    && agree f d (lo + two_to d) (lists_meeting (lo + two_to d) (two_to d) ls)

pub agree_at : (f : ℕ → List ℕ) (d lo : ℕ) (ls : List ClassList) → agree f d lo ls ≡ true → (k : ℕ) → lo ≤ k →
    k < lo + two_to d → classes_with k ls ≡ f k
agree_at f zero lo ls e k h g =
    let at_k : lo ≡ k = omega arith in
    rw at_k at (same_text (classes_with lo ls) (f lo) (sym e))
agree_at f (suc d) lo ls e k h g =
    let both = (and-eq-true_iff (agree f d lo (lists_meeting lo (two_to d) ls))
    (agree f d (lo + two_to d) (lists_meeting (lo + two_to d) (two_to d) ls))).0 e in
    elim (cases_lt k (lo + two_to d)) [
      | inl m ↦
          sym (meeting_classes lo (two_to d) k h m ls) ∙ agree_at f d lo (lists_meeting lo (two_to d) ls) both.0 k h m
      | inr m ↦
          sym (meeting_classes (lo + two_to d) (two_to d) k m (omega arith) ls)
          ∙ agree_at f d (lo + two_to d) (lists_meeting (lo + two_to d) (two_to d) ls) both.1 k m (omega arith)
    ]

-- the same for m intervals of 2 to the d code points each, from lo on
abbrev pub intervals : ℕ → ℕ → ℕ
intervals zero d = 0
intervals (suc m) d = two_to d + intervals m d

abbrev pub agrees : (ℕ → List ℕ) → ℕ → ℕ → ℕ → List ClassList → Bool
agrees f zero d lo ls = true
agrees f (suc m) d lo ls = agree f d lo (lists_meeting lo (two_to d) ls) && agrees f m d (lo + two_to d) ls

pub agrees_at : (f : ℕ → List ℕ) (m d lo : ℕ) (ls : List ClassList) → agrees f m d lo ls ≡ true → (k : ℕ) → lo ≤ k →
    k < lo + intervals m d → classes_with k ls ≡ f k
agrees_at f zero d lo ls e k h g = absurd (omega arith)
agrees_at f (suc m) d lo ls e k h g =
    let both =
    (and-eq-true_iff (agree f d lo (lists_meeting lo (two_to d) ls)) (agrees f m d (lo + two_to d) ls)).0 e in
    elim (cases_lt k (lo + two_to d)) [
      | inl n ↦
          sym (meeting_classes lo (two_to d) k h n ls) ∙ agree_at f d lo (lists_meeting lo (two_to d) ls) both.0 k h n
      | inr n ↦ agrees_at f m d (lo + two_to d) ls both.1 k n (omega arith)
    ]
