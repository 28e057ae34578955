-- docs/RULES.md, "How many lines an edit composes anew", in the words of a slot: the line words and place words of
-- lines that stay, and of lines that move. Assumes nothing.
use Rattle.std.proofs.Common.{◌≡◌, refl, ap, sym, ◌∙◌, ℕ, zero, suc, ◌+◌, ◌*◌, ◌-◌, arith, add-zero, zero-add}
use Rattle.std.proofs.Common.{add-suc, suc-add, add_assoc, mul-suc, List, [], ◌∷◌, ◌++◌, inl, inr, length, take, drop}
use Rattle.std.proofs.Common.{drop_of_length-le}
use Rattle.std.proofs.Math.Numerals.{add-three}
use Rattle.std.proofs.Math.Seq.{take-append-add, drop-append-add}
use Rattle.rules.specs.Basics.{Run}
use Rattle.rules.specs.Records.{Rec}
use Rattle.rules.specs.Groups.{TextUnit, units}
use Rattle.rules.specs.Adjustment.{Line, line_of, lines_of, is_empty, compose}
use Rattle.rules.specs.Sheet.{places_of, place_words, line_words}
use Rattle.rules.specs.Meanings.{All, all_none, all_more}
use Rattle.rules.specs.Redone.{start}
use Rattle.rules.specs.Stable.{StableAround, used_by, moved_lines, moved_places, WordsStable}
use Rattle.std.proofs.lemmas.Bool.{cases_lt}
use Rattle.rules.proofs.Decisions.{cons_path}
use Rattle.rules.proofs.WordCounts.{length_xs, length_places_of}

-- Words of lines up to a line, and from it on ------------------------------------------------------------------------

lines_take : (n i : ℕ) (ls : List Line) → take (3 * n) (line_words i ls) ≡ line_words i (take n ls)
unfolding line_words
lines_take zero i ls = refl
lines_take (suc n) i [] = rw (mul-suc, add-three)
lines_take (suc n) i (l ∷ ls) = rw (mul-suc, add-three, lines_take n (i + l.count) ls)

lines_drop : (n i : ℕ) (ls : List Line) → drop (3 * n) (line_words i ls) ≡ line_words (i + start n ls) (drop n ls)
unfolding line_words start
lines_drop zero i ls = rw add-zero
lines_drop (suc n) i [] = rw (mul-suc, add-three)
lines_drop (suc n) i (l ∷ ls) = rw (mul-suc, add-three, ← add_assoc) (lines_drop n (i + l.count) ls)

-- a line has an x for each of its records
abbrev Counted : Line → Type 0
Counted l = length l.xs ≡ l.count

lines_counted : (m x : ℕ) (ls : List (Run TextUnit)) → All Counted (lines_of m x ls)
unfolding lines_of line_of
lines_counted m x [] = all_none
lines_counted m x (l ∷ ls) = all_more (length_xs m x (is_empty ls) l) (lines_counted m 0 ls)

places_take : (n i : ℕ) {ls : List Line} → All Counted ls →
    take (2 * start n ls) (place_words i ls) ≡ place_words i (take n ls)
unfolding place_words start
places_take zero i h = refl
places_take (suc n) i all_none = refl
places_take (suc n) i (all_more {a = l} {bs = ls} h hs) =
    let ws = places_of i l.xs in
    let e : 2 * (l.count + start n ls) ≡ length ws + 2 * start n ls = omega (arith, length_places_of i l.xs) in
    rw e (take-append-add ws (place_words (suc i) ls) (2 * start n ls) ∙ ap (λ vs. ws ++ vs) (places_take n (suc i) hs))

places_drop : (n i : ℕ) {ls : List Line} → All Counted ls →
    drop (2 * start n ls) (place_words i ls) ≡ place_words (i + n) (drop n ls)
unfolding place_words start
places_drop zero i h = rw add-zero
places_drop (suc n) i all_none = refl
places_drop (suc n) i (all_more {a = l} {bs = ls} h hs) =
    let ws = places_of i l.xs in
    let e : 2 * (l.count + start n ls) ≡ length ws + 2 * start n ls = omega (arith, length_places_of i l.xs) in
    rw (e, add-suc, ← suc-add) (drop-append-add ws (place_words (suc i) ls) (2 * start n ls) ∙ places_drop n (suc i) hs)

-- Words of lines that move -------------------------------------------------------------------------------------------

lines_moved : (a d i j : ℕ) (ls : List Line) → j + d ≡ i + a → line_words j ls ≡ moved_lines a d (line_words i ls)
unfolding line_words moved_lines
lines_moved a d i j [] e = refl
lines_moved a d i j (l ∷ ls) e =
    let f : j ≡ i + a - d = omega arith in
    cons_path f (ap (λ ws. l.end ∷ l.kind ∷ ws) (lines_moved a d (i + l.count) (j + l.count) ls (omega arith)))

line_places_moved : (a d i j : ℕ) (xs ws : List ℕ) → j + d ≡ i + a →
    moved_places a d (places_of i xs ++ ws) ≡ places_of j xs ++ moved_places a d ws
unfolding places_of moved_places
line_places_moved a d i j [] ws e = refl
line_places_moved a d i j (x ∷ xs) ws e =
    let f : i + a - d ≡ j = omega arith in
    ap (λ ws. x ∷ ws) (cons_path f (line_places_moved a d i j xs ws e))

places_moved : (a d i j : ℕ) (ls : List Line) → j + d ≡ i + a → place_words j ls ≡ moved_places a d (place_words i ls)
unfolding place_words moved_places
places_moved a d i j [] e = refl
places_moved a d i j (l ∷ ls) e =
    rw (line_places_moved a d i j l.xs _ e, places_moved a d (suc i) (suc j) ls (omega arith))

-- The promise --------------------------------------------------------------------------------------------------------

start_take : (n : ℕ) (ls : List Line) → start n (take n ls) ≡ start n ls
unfolding start
start_take zero ls = refl
start_take (suc n) [] = refl
start_take (suc n) (l ∷ ls) = ap (λ i. l.count + i) (start_take n ls)

module _ (f r deleted inserted : ℕ) (old new : List Line)
    (s : StableAround f r deleted inserted old new) where
  later_lines : line_words (start r new) (drop r new) ≡
      moved_lines inserted deleted (line_words (start s.again old) (drop s.again old))
  unfolding line_words moved_lines
  later_lines =
      elim (cases_lt r (length new)) [
        | inl h ↦
            ap (λ ls. line_words (start r new) ls) s.after
            ∙ lines_moved inserted deleted (start s.again old) (start r new) (drop s.again old) (s.moved h).2
        | inr h ↦
            let e = drop_of_length-le new h in
            ap (λ ls. line_words (start r new) ls) e
            ∙ ap (λ ls. moved_lines inserted deleted (line_words (start s.again old) ls)) (sym e ∙ s.after)
      ]

  words_stable : All Counted old → All Counted new →
      WordsStable f r s.again deleted inserted old new (used_by old) (used_by new)
  words_stable c d =
      let p : start f new ≡ start f old =
      sym (start_take f new) ∙ ap (λ ls. start f ls) s.before ∙ start_take f old in
      record {
        lines_before = rw (lines_take, lines_take, s.before);
        places_before = rw (places_take f 0 c, ← p, places_take f 0 d, s.before);
        lines_after = rw (lines_drop r, zero-add, lines_drop s.again, zero-add) later_lines;
        places_after =
            rw (places_drop r 0 d, s.after, places_drop s.again 0 c)
            (places_moved r s.again (0 + s.again) (0 + r) (drop s.again old) (omega arith));
      }

-- of any two paragraphs in one measure
pub composed_words_stable : (m x : ℕ) (rs qs : List Rec) (f r deleted inserted : ℕ) →
    let old = compose m x (units rs) in
    let new = compose m x (units qs) in
    (s : StableAround f r deleted inserted old new) →
    WordsStable f r s.again deleted inserted old new (used_by old) (used_by new)
unfolding compose
composed_words_stable m x rs qs f r deleted inserted s =
    words_stable f r deleted inserted (compose m x (units rs)) (compose m x (units qs)) s (lines_counted m x _)
    (lines_counted m x _)
