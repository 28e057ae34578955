-- The ten entries of the spacing table: what each sets is linear in eighths of the sizes, and within its bounds.
-- Assumes nothing.
use Rattle.std.proofs.Common.{◌≡◌, ap, ◌∙◌, ℕ, zero, suc, ◌+◌, ◌*◌, ◌≤◌, ◌<◌, arith, add-zero, zero-add, List, []}
use Rattle.std.proofs.Common.{◌∷◌, length, get_or}
use Rattle.rules.specs.Limits.{largest_size}
use Rattle.rules.specs.Space.{Fraction, no_part, eighth, quarter, half, part, measured}
use Rattle.rules.specs.Gaps.{Flexibility, punctuation, japanese_western, fixed, gap_by}
use Rattle.rules.specs.Spacing.{Entry, entry, solid, entries, named, gap_set}
use Rattle.rules.specs.Packed.{packed, Packs, AtMost, left_word, right_word, weighing, taken}

-- the entry's gap between sizes of a and b eighths, with weight w
pub record EntryLaw (e : Entry) : Type 0 where
  pub word : (a b w : ℕ) →
      packed (gap_set e (8 * a) (8 * b) w) ≡ a * left_word e + b * right_word e + weighing w
  pub small : (left_word e ≤ 549755813888) × (right_word e ≤ 549755813888)
  pub packs : (a b w : ℕ) → Packs (gap_set e (8 * a) (8 * b) w)
  pub at_most : (l r w : ℕ) → l ≤ largest_size → r ≤ largest_size → w ≤ 1 → AtMost 1 (gap_set e l r w)

part_eighths : (f : Fraction) (a : ℕ) → part f (8 * a) ≡ a * part f 8
part_eighths no_part a = omega arith
part_eighths eighth a = omega arith
part_eighths quarter a = omega arith
part_eighths half a = omega arith

part_most : (f : Fraction) (s : ℕ) → s ≤ largest_size → part f s ≤ 2000
part_most no_part s h = omega arith
part_most eighth s h = omega arith
part_most quarter s h = omega arith
part_most half s h = omega arith

fixed_law : (f g : Fraction) → EntryLaw (entry f g fixed)
unfolding packed gap_by measured
fixed_law f g =
    let left : left_word (entry f g fixed) ≡ part f 8 = omega (arith, part_eighths g 0) in
    let right : right_word (entry f g fixed) ≡ part g 8 = omega (arith, part_eighths f 0) in
    record {
      word = λ a b w. rw (left, right) (omega (arith, part_eighths f a, part_eighths g b));
      small = rw (left, right) (omega (arith, part_most f 8 (omega arith), part_most g 8 (omega arith)));
      packs = omega arith;
      at_most = λ l r w h k v. omega (arith, part_most f l h, part_most g r k);
    }

punctuation_before : EntryLaw (entry half no_part punctuation)
unfolding packed gap_by measured
punctuation_before = omega arith

japanese_western_before : EntryLaw (entry quarter no_part japanese_western)
unfolding packed gap_by measured
japanese_western_before = omega arith

-- a space of the right size is like one of the left size
space_after : (x : Flexibility) (f : Fraction) (l r w : ℕ) →
    gap_set (entry no_part f x) l r w ≡ gap_set (entry f no_part x) r 0 w
unfolding gap_by measured
space_after punctuation f l r w = simp (zero-add, add-zero)
space_after japanese_western f l r w = simp (zero-add, add-zero)
space_after fixed f l r w = simp (zero-add, add-zero)

after_law : (x : Flexibility) (f : Fraction) → EntryLaw (entry f no_part x) → EntryLaw (entry no_part f x)
after_law x f h =
    let e = entry f no_part x in
    let moved = space_after x f in
    let left : left_word (entry no_part f x) ≡ 0 = ap packed (moved 8 0 0) ∙ h.word 0 0 0 ∙ omega arith in
    let right : right_word (entry no_part f x) ≡ left_word e = ap packed (moved 0 8 0) in
    record {
      word =
          λ a b w. ap packed (moved (8 * a) (8 * b) w) ∙ h.word b 0 w ∙ rw (left, right) (omega arith);
      small = (rw left (omega arith), rw right h.small.0);
      packs = λ a b w. rw (moved (8 * a) (8 * b) w) (h.packs b 0 w);
      at_most = λ l r w k m v. rw (moved l r w) (h.at_most r 0 w m (omega arith) v);
    }

-- what holds of each element of a list
abbrev Each : (Entry → Type 0) → List Entry → Type 0
Each P [] = Unit {0}
Each P (e ∷ es) = P e × Each P es

each_at : (P : Entry → Type 0) (es : List Entry) → Each P es → (n : ℕ) → n < length es → P (get_or es n solid)
each_at P [] p n h = absurd (omega arith)
each_at P (e ∷ es) p zero h = p.0
each_at P (e ∷ es) p (suc n) h = each_at P es p.1 n (omega arith)

laws : Each EntryLaw entries
unfolding entries
laws =
    search (
      fixed_law,
      punctuation_before,
      japanese_western_before,
      after_law punctuation,
      after_law japanese_western,
    ) depth 15

pub entry_law : (n : ℕ) → n < 10 → EntryLaw (named n)
unfolding entries
entry_law n h = each_at EntryLaw entries laws n h

-- the first entry takes nothing
pub solid_taken : (n left right : ℕ) → n ≡ 0 → 0 ≡ taken n left right
unfolding entries packed gap_by measured
solid_taken n left right z = rw z (omega arith)
