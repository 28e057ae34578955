-- A slot's stored records, and whether they are sound. Assumes nothing.
use Rattle.std.proofs.Common.{◌≡◌, ap, ◌∙◌, List, Bool, true, false, ◌&&◌, ℕ, ◌+◌, ◌-◌, ◌*◌, ◌≤◌, ◌<◌, arith, leb}
use Rattle.std.proofs.Common.{eqb, length, take, drop, get_or, length-drop, length-take-le, leb-true, le-leb, ne_eqb}
use borrow.Author.Tests.{lt-leb}
use Rattle.rules.specs.Layout.{most_records, slot_length}
use Rattle.rules.specs.Records.{records}
use Rattle.rules.specs.Sheet.{measure_of, indent_of, count_of, in_use_of, records_of, limits_ok}
use Rattle.rules.specs.Refusals.{Answer, says, judged, sound}
use Rattle.rules.specs.Redone.{start}
use Rattle.rules.specs.Stable.{ruled_lines}
use Rattle.rules.proofs.RecordLimits.{and_left, and_right}
use Rattle.rules.proofs.RecordWords.{records_take, length_records}
use Rattle.rules.proofs.Judged.{line_count}
use Rattle.rules.proofs.WordCounts.{composed_few}
use Rattle.compose.specs.Paragraph.{record_count, paragraph}
use Rattle.rules.specs.Numbers.{number_of, refused_with}
use Rattle.rules.specs.declared.refusal.Refusal.{Refusal}
use Rattle.rules.specs.declared.measure.Measure.{Measure}
use Rattle.compose.specs.Composed.{outcome, Starts}
use Rattle.slot.proofs.RefusalNumbers.{number_not_0}
use Rattle.slot.specs.Slot.{stored_words, InMeasure, StoredLines}

-- n records at the front of some words, as a paragraph
pub front_size : (w : List ℕ) (n : ℕ) → 6 * n ≤ length w → record_count (take (6 * n) w) ≡ n
front_size w n h = omega (arith, length-take-le (6 * n) w h)

pub front_paragraph : (w : List ℕ) (n : ℕ) → 6 * n ≤ length w → paragraph (take (6 * n) w) ≡ records w 0 n
front_paragraph w n h = ap (λ k. records (take (6 * n) w) 0 k) (front_size w n h) ∙ records_take w n

-- the part of a slot that its records are
module _ (s : List ℕ) (len : length s ≡ slot_length) (few : count_of s ≤ most_records) where
  pub old_room : 6 * count_of s ≤ length (drop 8 s)
  old_room = omega (arith, length-drop 8 s)

  part : stored_words s ≡ take (6 * count_of s) (drop 8 s)
  part = let e : 8 + 6 * count_of s - 8 ≡ 6 * count_of s = omega arith in rw e

  pub stored_paragraph : paragraph (stored_words s) ≡ records_of s
  stored_paragraph = ap (λ ws. paragraph ws) part ∙ front_paragraph (drop 8 s) (count_of s) old_room

  -- what is answered of them
  module _ (m : Measure) (e : InMeasure s m) where
    pub stored_outcome : {a : Answer} → outcome (stored_words s) m ≡ a →
        judged (measure_of s) (indent_of s) (records_of s) ≡ a
    stored_outcome h = rw (← e.0, ← e.1, ← stored_paragraph) h

    pub stored_starts : (starts : List ℕ) {lines : ℕ} → Starts (stored_words s) m starts lines →
        (j : ℕ) → j < lines → get_or starts j 0 ≡ start j (ruled_lines s)
    stored_starts starts h j l = rw (← e.0, ← e.1, ← stored_paragraph) (h j l)

-- answer 4, test by test
module _ (s : List ℕ) where
  abbrev limits : Bool
  limits = limits_ok (measure_of s) (indent_of s)

  abbrev few : Bool
  few = leb (count_of s) most_records

  abbrev used : Bool
  used = leb (in_use_of s) 1

  pub limits_off : limits ≡ false → sound s ≡ false
  unfolding sound
  limits_off e = rw e

  pub count_off : limits ≡ true → most_records < count_of s → sound s ≡ false
  unfolding sound
  count_off e h = rw (e, lt-leb (count_of s) most_records h)

  pub use_off : limits ≡ true → count_of s ≤ most_records → 1 < in_use_of s → sound s ≡ false
  unfolding sound
  use_off e h u = rw (e, le-leb (count_of s) most_records h, lt-leb (in_use_of s) 1 u)

  pub records_tell : limits ≡ true → count_of s ≤ most_records → in_use_of s ≤ 1 →
      sound s ≡ eqb (judged (measure_of s) (indent_of s) (records_of s)).number 0
  unfolding sound
  records_tell e h u = rw (e, le-leb (count_of s) most_records h, le-leb (in_use_of s) 1 u)

  -- what a sound slot has
  limits_and_few : sound s ≡ true → limits && few ≡ true
  unfolding sound
  limits_and_few e = and_left (limits && few) used (and_left (limits && few && used) _ e)

  pub sound_count : sound s ≡ true → count_of s ≤ most_records
  sound_count e = leb-true (count_of s) most_records (and_right limits few (limits_and_few e))

  pub sound_in_use : sound s ≡ true → in_use_of s ≤ 1
  unfolding sound
  sound_in_use e = leb-true (in_use_of s) 1 (and_right (limits && few) used (and_left (limits && few && used) _ e))

-- the records of a slot whose numbers are within limits tell whether it is sound
module _ (s : List ℕ) (len : length s ≡ slot_length) (limit : limits s ≡ true) (few : count_of s ≤ most_records)
    (used : in_use_of s ≤ 1)
    (m : Measure)
    (e : InMeasure s m) where
  told : sound s ≡ eqb (judged (measure_of s) (indent_of s) (records_of s)).number 0
  told = records_tell s limit few used

  -- any refusal of them is answer 4
  pub told_damaged : {ws : List ℕ} → ws ≡ stored_words s → (x : Refusal) → outcome ws m ≡ refused_with x →
      sound s ≡ false
  told_damaged w x a =
      let j = stored_outcome s len few m e (rw w at a) in told ∙ rw j (ne_eqb (number_of x) 0 (number_not_0 x))

  pub told_lines : {ws : List ℕ} → ws ≡ stored_words s → (starts : List ℕ) (n : ℕ) → outcome ws m ≡ says 0 n →
      Starts ws m starts n → StoredLines s starts (record { measure = m; lines = n })
  told_lines w starts n a f =
      let j = stored_outcome s len few m e (rw w at a) in
      let count = line_count (measure_of s) (indent_of s) (records_of s) n j in
      let few_lines = composed_few (measure_of s) (indent_of s) (records_of s) in
      let all = length_records (drop 8 s) 0 (count_of s) in
      record {
        sound_is = told ∙ rw j;
        in_measure = e;
        few_lines = omega arith;
        lines_are = record { count = count; first = stored_starts s len few m e starts (rw w at f) };
      }
