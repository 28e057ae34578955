-- docs/RULES.md, "How many lines an edit composes anew": what k and f are. Assumes nothing.
use Rattle.std.proofs.Common.{◌≡◌, refl, ap, ◌∙◌, ℕ, zero, suc, ◌-◌, ◌≤◌, ◌<◌, min, arith, List, [], ◌∷◌, inl, inr}
use Rattle.std.proofs.Common.{ltb, length, take, length-take, ltb-true, ltb-false, lt-ltb, le-ltb}
use Rattle.rules.specs.Adjustment.{Line}
use Rattle.rules.specs.Redone.{start, holding, edit_line, first_redone}
use Rattle.rules.specs.Stable.{Holds}
use Rattle.std.proofs.lemmas.Bool.{cases_Bool, cases_lt}

-- a line up to the one that holds record i starts at it or before it
held : (i : ℕ) (ls : List Line) (j : ℕ) → j ≤ holding i ls → start j ls ≤ i
unfolding holding start
held i ls zero h = omega arith
held i [] (suc j) h = omega arith
held i (l ∷ ls) (suc j) h =
    elim (cases_Bool (ltb i l.count)) [
      | inl e ↦ omega (arith, rw (e, holding) at h)
      | inr e ↦
          let g = held (i - l.count) ls j (omega (arith, rw (e, holding) at h)) in
          omega (arith, ltb-false i l.count e)
    ]

-- a record of the lines is held
holding_holds : (i : ℕ) (ls : List Line) → i < start (length ls) ls → Holds i ls (holding i ls)
unfolding holding start
holding_holds i [] h = absurd (omega arith)
holding_holds i (l ∷ ls) h =
    elim (cases_Bool (ltb i l.count)) [
      | inl e ↦
          rw (e, holding) (omega (arith, ltb-true i l.count e))
      | inr e ↦
          let c = ltb-false i l.count e in
          let g = holding_holds (i - l.count) ls (omega arith) in
          rw (e, holding) (omega arith)
    ]

-- and no other
holding_end : (i : ℕ) (ls : List Line) → start (length ls) ls ≤ i → holding i ls ≡ length ls
unfolding holding start
holding_end i [] h = refl
holding_end i (l ∷ ls) h =
    elim (cases_Bool (ltb i l.count)) [
      | inl e ↦ absurd (omega (arith, ltb-true i l.count e))
      | inr e ↦ rw (e, holding) (ap suc (holding_end (i - l.count) ls (omega (arith, ltb-false i l.count e))))
    ]

-- lines start one after another
pub starts_ascend : (ls : List Line) (i j : ℕ) → i ≤ j → j ≤ length ls → start i ls ≤ start j ls
unfolding start
starts_ascend ls zero j h g = omega arith
starts_ascend ls (suc i) zero h g = absurd (omega arith)
starts_ascend [] (suc i) (suc j) h g = absurd (omega arith)
starts_ascend (l ∷ ls) (suc i) (suc j) h g = omega (arith, starts_ascend ls i j (omega arith) (omega arith))

-- k holds the place, or is the last old line if the place is the end, or 0 if there are none
pub edit_line_holds : (place : ℕ) (old : List Line) →
    (place < start (length old) old → Holds place old (edit_line place old))
    × (start (length old) old ≤ place → edit_line place old ≡ length old - 1)
unfolding edit_line
edit_line_holds place old = (
  λ h.
      let g = holding_holds place old h in
      let e : min (holding place old) (length old - 1) ≡ holding place old = omega (arith, g.there) in
      rw e g,
  λ h. omega (arith, holding_end place old h),
)

-- only one line holds a record, so whoever finds one has k
holding_only : (i : ℕ) (ls : List Line) (k : ℕ) → Holds i ls k → holding i ls ≡ k
unfolding holding start
holding_only i [] k h = absurd (omega (arith, h.there))
holding_only i (l ∷ ls) zero h =
    rw (lt-ltb i l.count (omega (arith, h.to)), holding)
holding_only i (l ∷ ls) (suc k) h =
    rw (le-ltb i l.count (omega (arith, h.from)), holding)
    (ap suc (holding_only (i - l.count) ls k (omega arith)))

pub edit_line_only : (place : ℕ) (old : List Line) (k : ℕ) → Holds place old k → edit_line place old ≡ k
unfolding edit_line
edit_line_only place old k h = omega (arith, holding_only place old k h, h.there)

-- k is the last line that starts at the place or before it
pub edit_line_last : (place : ℕ) (old : List Line) (k : ℕ) → k < length old → start k old ≤ place →
    (suc k < length old → place < start (suc k) old) → edit_line place old ≡ k
edit_line_last place old k there from to =
    elim (cases_lt place (start (suc k) old)) [
      | inl h ↦ edit_line_only place old k record { there = there; from = from; to = h }
      | inr h ↦
          let e : length old ≡ suc k = elim (cases_lt (suc k) (length old)) [
            | inl g ↦ absurd (omega (arith, to g))
            | inr g ↦ omega arith
          ] in
          (edit_line_holds place old).1 (rw e h) ∙ omega arith
    ]

-- f, where it is not 0, is before the line which holds the place, and is not line 0
pub before_place : (place : ℕ) (old : List Line) (n : ℕ) → suc n ≡ first_redone place old →
    (suc n < length old) × (start (suc (suc n)) old ≤ place)
unfolding edit_line
before_place place old n e =
    (omega arith, held place old (suc (suc n)) (omega arith))

-- f is no more than the new line count, since those lines stay
pub f_within : (place : ℕ) (old new : List Line) →
    take (first_redone place old) new ≡ take (first_redone place old) old →
    first_redone place old ≤ length new
unfolding edit_line
f_within place old new e =
    let f = first_redone place old in
    omega (arith, ap (λ ls. length ls) e, length-take f new, length-take f old)
