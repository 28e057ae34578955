-- How many words a paragraph's places and lines are. Assumes nothing.
use Rattle.std.proofs.Common.{◌≡◌, refl, ap, ◌∙◌, List, [], ◌∷◌, Bool, ℕ, suc, ◌+◌, ◌*◌, ◌≤◌, arith, length}
use Rattle.std.proofs.Common.{length-append}
use Rattle.std.proofs.Math.ListN.{length-map}
use Rattle.rules.specs.Basics.{Run, whole, joined}
use Rattle.rules.specs.Records.{Rec}
use Rattle.rules.specs.Groups.{TextUnit, units, count, counts, advance, offsets, base_offsets, same_group}
use Rattle.rules.specs.Gaps.{Gap, plus}
use Rattle.rules.specs.Breaks.{gap, runs, breaking}
use Rattle.rules.specs.Adjustment.{Amounts, Line, adjusted, placed, line_of, lines_of, compose, is_empty}
use Rattle.rules.specs.Sheet.{places_of, place_words, line_words}
use Rattle.rules.proofs.Cuts.{cut_joined}
use Rattle.rules.proofs.NoBreaking.{counts_append}
use Rattle.rules.proofs.Breaking.{breaking_choice}

length_offsets : (base ruby s n k solid : ℕ) (rs : List Rec) → length (offsets base ruby s n k solid rs) ≡ length rs
unfolding offsets
length_offsets base ruby s n k solid [] = refl
length_offsets base ruby s n k solid (r ∷ rs) = ap suc (length_offsets base ruby s n (suc k) (solid + r.advance) rs)

pub length_base_offsets : (u : TextUnit) → length (base_offsets u) ≡ count u
unfolding base_offsets
length_base_offsets u = length_offsets _ _ _ _ 0 0 (whole u)

-- an x for each record
pub length_placed : (e : Amounts) (c s : Gap) (x : ℕ) (u : TextUnit) (us : List TextUnit) →
    length (placed e c s x u us) ≡ counts (u ∷ us)
unfolding placed counts
length_placed e c s x u [] = omega (arith, length-map (base_offsets u) (λ o. x + o), length_base_offsets u)
length_placed e c s x u (v ∷ us) =
    let g = gap u v in
    let more = length_placed e c (plus s g) (x + advance u + adjusted e c s g) v us in
    simp (length-append, length-map) (omega (arith, length_base_offsets u))

pub length_xs : (m x : ℕ) (final : Bool) (l : Run TextUnit) → length (line_of m x final l).xs ≡ counts (whole l)
unfolding line_of
length_xs m x final l = length_placed _ _ _ x l.first l.rest

pub length_places_of : (i : ℕ) (xs : List ℕ) → length (places_of i xs) ≡ 2 * length xs
unfolding places_of
length_places_of i [] = refl
length_places_of i (x ∷ xs) = omega (arith, length_places_of i xs)

pub length_place_words : (m x i : ℕ) (ls : List (Run TextUnit)) →
    length (place_words i (lines_of m x ls)) ≡ 2 * counts (joined ls)
unfolding place_words lines_of joined counts
length_place_words m x i [] = refl
length_place_words m x i (l ∷ ls) =
    let more = length_place_words m 0 (suc i) ls in
    let all = counts_append (whole l) (joined ls) in
    simp (length-append, length_places_of) (omega (arith, length_xs m x (is_empty ls) l))

pub length_line_words : (f : ℕ) (ls : List Line) → length (line_words f ls) ≡ 3 * length ls
unfolding line_words
length_line_words f [] = refl
length_line_words f (l ∷ ls) = omega (arith, length_line_words (f + l.count) ls)

pub length_lines_of : (m x : ℕ) (ls : List (Run TextUnit)) → length (lines_of m x ls) ≡ length ls
unfolding lines_of
length_lines_of m x [] = refl
length_lines_of m x (l ∷ ls) = ap suc (length_lines_of m 0 ls)

-- a unit has a record at least, and so has a line
lines_few : (ls : List (Run TextUnit)) → length ls ≤ counts (joined ls)
unfolding joined counts
lines_few [] = omega arith
lines_few (l ∷ ls) = omega (arith, lines_few ls, counts_append (whole l) (joined ls))

pub counts_joined : (us : List TextUnit) → counts us ≡ length (joined us)
unfolding counts joined
counts_joined [] = refl
counts_joined (u ∷ us) = omega (arith, counts_joined us, length-append (whole u) (joined us))

pub counts_units : (rs : List Rec) → counts (units rs) ≡ length rs
unfolding units
counts_units rs = counts_joined (units rs) ∙ ap length (cut_joined same_group rs)

module _ (m x : ℕ) (rs : List Rec) where
  pub composed_places : length (place_words 0 (compose m x (units rs))) ≡ 2 * length rs
  unfolding compose
  composed_places = rw (length_place_words, (breaking_choice m x (units rs)).joins_up, counts_units)

  pub composed_lines : length (line_words 0 (compose m x (units rs))) ≡ 3 * length (compose m x (units rs))
  composed_lines = length_line_words 0 _

  pub composed_few : length (compose m x (units rs)) ≤ length rs
  unfolding compose
  composed_few =
      let ls = breaking m x (runs (units rs)) in
      let held = ap (λ us. counts us) (breaking_choice m x (units rs)).joins_up ∙ counts_units rs in
      omega (arith, length_lines_of m x ls, lines_few ls)
