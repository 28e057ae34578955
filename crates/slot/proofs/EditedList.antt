-- The record list of an edit: whole records, the old ones with the named stretch replaced, and the metrics that it has
-- from them. Assumes nothing.
use Rattle.std.proofs.Common.{◌≡◌, refl, ap, ◌∙◌, List, ◌++◌, ℕ, ◌+◌, ◌-◌, ◌*◌, ◌/◌, ◌%◌, ◌≤◌, arith, length}
use Rattle.std.proofs.Common.{take, drop, take_at, length-take-le, get_or-take, get_or-drop, get_or-append-add}
use Rattle.std.proofs.Math.ListN.{get_or-append}
use Rattle.rules.specs.Layout.{most_records, records_length, slot_length}
use Rattle.rules.specs.Basics.{zeros}
use Rattle.rules.specs.Records.{records}
use Rattle.rules.specs.Sheet.{count_of}
use Rattle.rules.specs.Refusals.{edited}
use Rattle.compose.specs.Paragraph.{record_count, paragraph}
use Rattle.compose.specs.Scan.{FilledFrom, Front}
use Rattle.compose.specs.Composed.{Kept}
use Rattle.compose.specs.Kept.{KeptFrom}
use Rattle.compose.specs.declared.metrics.Metrics.{Metrics}
use Rattle.compose.proofs.AfterEdit.{Edit, metrics_kept}
use Rattle.compose.proofs.BeforeEdit.{front_kept}
use Rattle.slot.specs.declared.edit.Stored.{Stored}
use Rattle.slot.specs.declared.stretch.Stretch.{Stretch}
use Rattle.slot.specs.Slot.{spliced, spliced_into, stored_words, IsStretch, StoredLines}
use Rattle.slot.proofs.StoredRecords.{old_room, sound_count}
use Rattle.slot.proofs.SplicedRecords.{spliced_records, length_spliced}
use Rattle.rules.proofs.RecordWords.{length_records}

-- what c records at the front of some words have in common with those made of them
module _ (w ins : List ℕ) (c p d k : ℕ) (room : 6 * c ≤ length w) (within : p + d ≤ c) (inserted : length ins ≡ 6 * k)
  where
    abbrev old : List ℕ
    old = take (6 * c) w

    abbrev front : List ℕ
    front = take (6 * p) old

    abbrev back : List ℕ
    back = drop (6 * (p + d)) old

    length_old : length old ≡ 6 * c
    length_old = length-take-le (6 * c) w room

    length_front : length front ≡ 6 * p
    length_front = length-take-le (6 * p) old (omega (arith, length_old))

    spliced_edit : p + (k + (c - (p + d))) ≤ most_records →
        Edit old (spliced old (6 * p) (6 * (p + d)) ins) p (p + d) (p + k)
    spliced_edit few =
        let n = length_spliced w ins c p d k room within inserted in
        record {
          few = omega (arith, n);
          before =
              λ j h.
              get_or-append front (ins ++ back) 0 (6 * 0 + j) (omega (arith, length_front))
              ∙ get_or-take (6 * p) old (6 * 0 + j) 0 (omega arith);
          after =
              λ j h.
              let e : 6 * (p + k) + j ≡ length front + (length ins + j) = omega (arith, length_front) in
              rw e
              (get_or-append-add front (ins ++ back) (length ins + j) 0 ∙ get_or-append-add ins back j 0
              ∙ get_or-drop (6 * (p + d)) old j 0);
          count_after = omega (arith, n, length_old);
          old = omega (arith, length_old);
          new = omega arith;
        }

-- the list that the program makes: the new records' words at its front
pub record NewList (s : List ℕ) (p d : ℕ) (ins : List ℕ) (t : Stretch) (new : List ℕ) : Type 0 where
  pub records : paragraph new ≡ edited s p d ins
  pub whole : length new % 6 ≡ 0
  pub edit : Edit (stored_words s) new t.place (t.place + t.deleted) (t.place + t.inserted)
  pub new_few : length (edited s p d ins) ≤ most_records

-- in an edit under way: the slot's lines are told, and the stretch is tested
module _ {s starts ins : List ℕ} {stored : Stored} {p d : ℕ} {t : Stretch} (len : length s ≡ slot_length)
    (lines : StoredLines s starts stored) (h : IsStretch s p d ins t) where
  few : count_of s ≤ most_records
  few = sound_count s lines.sound_is

  abbrev words : List ℕ
  words = spliced (take (6 * count_of s) (drop 8 s)) (6 * p) (6 * (p + d)) ins

  length_words : length words ≡ 6 * (p + (t.inserted + (count_of s - (p + d))))
  length_words =
      length_spliced (drop 8 s) ins (count_of s) p d t.inserted (old_room s len few) h.within h.inserted_is

  records_words : paragraph words ≡ edited s p d ins
  records_words =
      let n : record_count words ≡ p + (t.inserted + (count_of s - (p + d))) = omega (arith, length_words) in
      let k : length ins / 6 ≡ t.inserted = omega (arith, h.inserted_is) in
      ap (λ m. records words 0 m) n
      ∙ rw k (spliced_records (drop 8 s) ins (count_of s) p d t.inserted (old_room s len few) h.within h.inserted_is)

  -- then the old records are spliced into a list of zeros
  module _ {list old : List ℕ} (o : old ≡ stored_words s)
      (e : list ≡ spliced_into (zeros records_length) old (6 * t.place) (6 * (t.place + t.deleted)) ins) where
    abbrev new : List ℕ
    new = take (length old - 6 * t.deleted + length ins) list

    pub new_list : NewList s p d ins t new
    new_list =
        let a : 8 + 6 * count_of s - 8 ≡ 6 * count_of s = omega arith in
        let l = length-take-le (6 * count_of s) (drop 8 s) (old_room s len few) in
        let n : length (take (6 * count_of s) (drop 8 s)) - 6 * d + length ins ≡ length words =
        omega (arith, length_words, l, h.within, h.inserted_is) in
        let r : new ≡ words =
        rw (o, h.deleted_is, a, n)
        (ap (λ w. take (length words) w) (rw (o, h.place_is, h.deleted_is, a) at e)
        ∙ take_at words _ (length words) refl) in
        record {
          records = rw r records_words;
          whole = rw r (omega (arith, length_words));
          edit =
              rw (r, h.place_is, h.deleted_is, a)
              (spliced_edit (drop 8 s) ins (count_of s) p d t.inserted (old_room s len few) h.within h.inserted_is
              (omega (arith, h.within, h.room)));
          new_few =
              rw (← records_words)
              (omega (arith, length_records words 0 (record_count words), length_words, h.within, h.room));
        }

    -- and the metrics that hold on are moved to their new records
    module _ {ms ms' : Metrics} {kept : ℕ} (k : Kept (stored_words s) ms)
        (q : KeptFrom old (t.place + t.deleted) (t.place + t.inserted) ms ms' kept) where
      pub new_filled : FilledFrom new t.place kept ms'
      new_filled = metrics_kept k new_list.edit (rw o at q)

      pub new_front : Front new t.place (t.place - 1) ms'
      new_front = front_kept k new_list.edit (rw o at q)
