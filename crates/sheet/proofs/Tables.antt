-- Laws of a table of refusals, whose answer is that of the first row that applies. Assumes nothing.
use Rattle.std.proofs.Common.{◌≡◌, refl, ap, ℕ, Bool, true, false, cond, not, ◌&&◌, List, [], ◌∷◌, ◌++◌, inl, inr}
use Rattle.std.proofs.Common.{eqb}
use borrow.Author.Tests.{eqb-false, not-true}
use Rattle.rules.specs.Basics.{first_of}
use Rattle.rules.specs.Refusals.{Answer, says}
use Rattle.std.proofs.lemmas.Bool.{cases_Bool}
use Rattle.rules.proofs.RecordLimits.{and_left, and_right}

pub same_number : {a b : Answer} → a ≡ b → a.number ≡ b.number
same_number e = ap (λ a. a.number) e

-- no row gives number n
abbrev pub lacking : ℕ → List (Bool × Answer) → Bool
lacking n [] = true
lacking n (row ∷ rows) = not (eqb row.1.number n) && lacking n rows

-- no row applies
abbrev pub Passed : List (Bool × Answer) → Type 0
Passed [] = Unit {0}
Passed (row ∷ rows) = (row.0 ≡ false) × Passed rows

-- where a table gives a number that no row gives, no row applied
pub passed : (n : ℕ) (rows : List (Bool × Answer)) (a : Answer) → lacking n rows ≡ true → (first_of rows a).number ≡ n →
    Passed rows × (a.number ≡ n)
passed n [] a l e = (tt, e)
passed n (row ∷ rows) a l e =
    let here = and_left (not (eqb row.1.number n)) (lacking n rows) l in
    let rest = and_right (not (eqb row.1.number n)) (lacking n rows) l in
    elim (cases_Bool row.0) [
      | inl t ↦ absurd (eqb-false _ _ (not-true _ here) (rw t at e))
      | inr t ↦ let p = passed n rows a rest (rw t at e) in ((t, p.0), p.1)
    ]

-- and then the answer is what stands under the table
pub under_table : (rows : List (Bool × Answer)) (a : Answer) → Passed rows → first_of rows a ≡ a
under_table [] a p = refl
under_table (row ∷ rows) a p = rw p.0 (under_table rows a p.1)

-- a table after another: it is gone through where the number of the first is 0
pub then_table : (rows more : List (Bool × Answer)) (a : Answer) → lacking 0 rows ≡ true →
    first_of (rows ++ more) a
    ≡ cond (eqb (first_of rows (says 0 0)).number 0) (first_of more a) (first_of rows (says 0 0))
then_table [] more a l = refl
then_table (row ∷ rows) more a l =
    let here = and_left (not (eqb row.1.number 0)) (lacking 0 rows) l in
    let rest = and_right (not (eqb row.1.number 0)) (lacking 0 rows) l in
    elim (cases_Bool row.0) [
      | inl t ↦ rw (t, not-true (eqb row.1.number 0) here)
      | inr t ↦ rw t (then_table rows more a rest)
    ]
