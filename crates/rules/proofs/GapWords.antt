-- The gap between two sides as a word: the entry's words, taken for each eighth of a size, and the weight. Assumes
-- nothing.
use Rattle.std.proofs.Common.{◌≡◌, ap, sym, ◌∙◌, ℕ, ◌+◌, ◌*◌, ◌/◌, arith, false, eqb, true, ◌≢◌, add-zero, ne_eqb}
use Rattle.rules.specs.Sides.{Side, forbidden}
use Rattle.rules.specs.Gaps.{Gap, weight, gap_of}
use Rattle.rules.specs.Spacing.{entries, named, gap_set, cell_of, break_of}
use Rattle.rules.specs.Packed.{packed, unpacked, Packs, AtMost, weighing, taken}
use Rattle.rules.specs.Bounds.{SideOk}
use Rattle.rules.specs.Tables.{part_word, IsCellOf}
use Rattle.rules.specs.declared.spacing.Cell.{Cell}
use Rattle.rules.proofs.Packed.{at_most_255, unpacked_packed}
use Rattle.rules.proofs.SpacingCells.{cell_small, cell_gap, cell_agrees}
use Rattle.rules.proofs.SpacingEntries.{EntryLaw, entry_law, solid_taken}
use Rattle.rules.proofs.Bounds.{size_bounds, size_most}
use Rattle.rules.proofs.GapWeights.{weight_forbidden, weight_dot, weight_free, weight_most, solid_after}
use Rattle.rules.proofs.SpacingBreaks.{break_permitted}
use Rattle.rules.proofs.SpacingTable.{parts_words}

-- a word holds the gap, and 254 like it
pub record GapBounds (g : Gap) : Type 0 where
  pub packs : Packs g
  pub at_most : AtMost 1 g

-- the number of the entry between two sides
abbrev pub cell : Side → Side → ℕ
cell L R = cell_of L.class R.class

module _ (L R : Side) (l : SideOk L) (r : SideOk R) where
  law : EntryLaw (named (cell L R))
  law = entry_law (cell L R) (cell_small L.class R.class l.class r.class)

  -- the rules' gap is the one that the cell's entry sets
  gap_is_set : gap_of L R ≡ gap_set (named (cell L R)) L.size R.size (weight L R)
  unfolding gap_of
  gap_is_set = sym (cell_gap L.class R.class l.class r.class L.size R.size (weight L R))

  in_eighths : gap_of L R ≡ gap_set (named (cell L R)) (8 * (L.size / 8)) (8 * (R.size / 8)) (weight L R)
  in_eighths =
      let a = (size_bounds L.size l.size).eighths in
      let b = (size_bounds R.size r.size).eighths in
      gap_is_set ∙ (λ t. gap_set (named (cell L R)) (a t) (b t) (weight L R))

  gap_packs : Packs (gap_of L R)
  gap_packs = rw in_eighths (law.packs (L.size / 8) (R.size / 8) (weight L R))

  gap_at_most : AtMost 1 (gap_of L R)
  gap_at_most =
      rw gap_is_set
      (law.at_most L.size R.size (weight L R) (size_bounds L.size l.size).most
      (size_bounds R.size r.size).most (weight_most L R))

  pub gap_bounds : GapBounds (gap_of L R)
  gap_bounds = record { packs = gap_packs; at_most = gap_at_most }

  -- what the cell's entry takes, and the weight
  pub gap_taken : (w : ℕ) → w ≡ taken (cell L R) L.size R.size →
      unpacked (w + weighing (weight L R)) ≡ gap_of L R
  gap_taken w e =
      ap (λ w. unpacked (w + weighing (weight L R))) e
      ∙ ap unpacked (sym (law.word (L.size / 8) (R.size / 8) (weight L R)) ∙ ap packed (sym in_eighths))
      ∙ unpacked_packed (gap_of L R) gap_packs (at_most_255 gap_at_most (omega arith))

  -- what the parts of the table's cell take of each size, and the weight
  module _ (c : Cell) (k : IsCellOf L.class R.class c) where
    parts : L.size / 8 * part_word c.before + R.size / 8 * part_word c.after ≡ taken (cell L R) L.size R.size
    parts =
        let small = cell_small L.class R.class l.class r.class in
        let words = rw k.space at (parts_words c.before c.after (rw k.space small)) in
        rw (words.0, words.1)

    weighed : (w : ℕ) → w ≡ weight L R →
        unpacked (L.size / 8 * part_word c.before + R.size / 8 * part_word c.after + weighing w) ≡ gap_of L R
    weighed w e = rw e (gap_taken _ parts)

    pub word_forbidden : (w : ℕ) → w ≡ L.size / 8 * part_word c.before + R.size / 8 * part_word c.after →
        forbidden L R ≡ true → unpacked w ≡ gap_of L R
    word_forbidden w e f = rw e (rw add-zero at (weighed 0 (sym (weight_forbidden L R f))))

    pub word_dot : (w : ℕ) → w ≡ L.size / 8 * part_word c.before + R.size / 8 * part_word c.after →
        L.class ≡ 5 → unpacked w ≡ gap_of L R
    word_dot w e f = rw e (rw add-zero at (weighed 0 (sym (weight_dot L R f))))

    pub word_free : (w : ℕ) → w ≡ L.size / 8 * part_word c.before + R.size / 8 * part_word c.after →
        forbidden L R ≡ false → L.class ≢ 5 → unpacked (w + weighing 1) ≡ gap_of L R
    word_free w e f n = rw e (weighed 1 (sym (weight_free L R f (ne_eqb L.class 5 n))))

  -- where nothing stands and the break is permitted, class 5 is not on the left
  module _ (e : cell_of L.class R.class ≡ 0) (p : break_of L.class R.class ≡ 0) where
    pub solid_permitted : forbidden L R ≡ false
    solid_permitted = break_permitted L R l.class r.class p

    no_dot : eqb L.class 5 ≡ false
    unfolding entries
    no_dot = solid_after L.class R.class (rw e at (cell_agrees L.class R.class l.class r.class))

    pub solid_word : unpacked (weighing 1) ≡ gap_of L R
    solid_word =
        rw (weight_free L R solid_permitted no_dot) at (gap_taken 0 (solid_taken (cell L R) L.size R.size e))

-- what `joint_between` rests on
pub ruleset joint_laws = (size_most, solid_permitted, solid_word, word_forbidden, word_dot, word_free)
