-- An edit's outcome, row by row, by what a program tests. Assumes nothing.
use Rattle.std.proofs.Common.{◌≡◌, List, true, false, ℕ, ◌+◌, ◌-◌, ◌/◌, ◌%◌, ◌≤◌, ◌<◌, arith, ltb, length, lt-ltb}
use Rattle.std.proofs.Common.{le-ltb, eq-eqb, ne_eqb}
use Rattle.rules.specs.Layout.{most_records}
use Rattle.rules.specs.Sheet.{count_of}
use Rattle.rules.specs.Refusals.{edit_says, reporting, sound, edited, edit_redone, slot_rows}
use Rattle.rules.specs.Refusals.{edit_slot}
use Rattle.slot.specs.declared.stretch.Stretch.{Stretch}
use Rattle.slot.specs.Slot.{IsStretch, replaced}

module _ (s : List ℕ) (place deleted : ℕ) (ins : List ℕ) where
  pub refuses_4 : sound s ≡ false → (edit_says 4 0 0, s) ≡ edit_slot s place deleted ins
  unfolding edit_slot slot_rows
  refuses_4 a = rw a

  module _ (a : sound s ≡ true) where
    pub refuses_5 : count_of s < place → (edit_says 5 (count_of s) 0, s) ≡ edit_slot s place deleted ins
    unfolding edit_slot slot_rows
    refuses_5 h = rw (a, lt-ltb (count_of s) place h)

    module _ (start : place ≤ count_of s) where
      pub refuses_5_end : count_of s - place < deleted →
          (edit_says 5 (count_of s) 0, s) ≡ edit_slot s place deleted ins
      unfolding edit_slot slot_rows
      refuses_5_end h =
          rw (a, le-ltb (count_of s) place start, lt-ltb (count_of s) (place + deleted) (omega arith))

      module _ (end : deleted ≤ count_of s - place) where
        ends : ltb (count_of s) (place + deleted) ≡ false
        ends = le-ltb (count_of s) (place + deleted) (omega arith)

        pub refuses_6 : (length ins % 6 ≡ 0 → ⊥) → (edit_says 6 0 0, s) ≡ edit_slot s place deleted ins
        unfolding edit_slot slot_rows
        refuses_6 h = rw (a, le-ltb (count_of s) place start, ends, ne_eqb (length ins % 6) 0 h)

        module _ (whole : length ins % 6 ≡ 0) where
          pub refuses_7 : most_records < count_of s - deleted + length ins / 6 →
              (edit_says 7 0 0, s) ≡ edit_slot s place deleted ins
          unfolding edit_slot slot_rows
          refuses_7 h =
              rw (
                a,
                le-ltb (count_of s) place start,
                ends,
                eq-eqb (length ins % 6) 0 whole,
                lt-ltb most_records (count_of s - deleted + length ins / 6) h,
              )

          accepts : count_of s - deleted + length ins / 6 ≤ most_records →
              (let o = replaced s (edited s place deleted ins) in
              (reporting o.0 (edit_redone s place deleted ins), o.1) ≡ edit_slot s place deleted ins)
          unfolding edit_slot slot_rows replaced
          accepts h =
              rw (
                a,
                le-ltb (count_of s) place start,
                ends,
                eq-eqb (length ins % 6) 0 whole,
                le-ltb most_records (count_of s - deleted + length ins / 6) h,
              )

    -- none of these rows applies
    pub replaces : (t : Stretch) → IsStretch s place deleted ins t →
        (let o = replaced s (edited s place deleted ins) in
        (reporting o.0 (edit_redone s place deleted ins), o.1) ≡ edit_slot s place deleted ins)
    replaces t h =
        accepts (omega (arith, h.within)) (omega (arith, h.within)) (omega (arith, h.inserted_is))
        (omega (arith, h.inserted_is, h.room))

pub ruleset stretch_tested = (refuses_5, refuses_5_end, refuses_6, refuses_7)
