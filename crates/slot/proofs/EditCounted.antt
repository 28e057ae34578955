-- An edit's answer, once its new records are judged: the report comes from the old lines' first records and the slot's
-- words. Assumes nothing.
use Rattle.std.proofs.Common.{◌≡◌, sym, ap, ◌∙◌, ℕ, ◌+◌, ◌-◌, ◌*◌, ◌/◌, ◌≤◌, arith, List, length, take, drop}
use Rattle.std.proofs.Common.{length-drop, length-take-le, get_or-take, ne_eqb}
use Rattle.rules.specs.Layout.{lines_at, most_records, records_length, slot_length}
use Rattle.rules.specs.Basics.{zeros}
use Rattle.rules.specs.Records.{Rec, records}
use Rattle.rules.specs.Groups.{units}
use Rattle.rules.specs.Adjustment.{Line, compose}
use Rattle.rules.specs.Sheet.{slot_words, measure_of, indent_of, setting_of}
use Rattle.rules.specs.Refusals.{Answer, says, EditAnswer, edit_says, reporting, Outcome, lines_redone, edited}
use Rattle.rules.specs.Refusals.{edit_redone, edit_slot}
use Rattle.rules.specs.Stable.{ruled_lines}
use Rattle.rules.proofs.WordCounts.{composed_few}
use Rattle.rules.proofs.RecordWords.{length_records}
use Rattle.rules.proofs.SlotWords.{length_slot, slot_firsts}
use Rattle.rules.specs.Numbers.{number_of, place_of, refused_with}
use Rattle.rules.specs.declared.refusal.Refusal.{Refusal}
use Rattle.compose.specs.Paragraph.{paragraph}
use Rattle.slot.specs.declared.edit.Stored.{Stored}
use Rattle.slot.specs.declared.stretch.Stretch.{Stretch}
use Rattle.slot.specs.Redone.{Starts, LineWords, Reported}
use Rattle.slot.specs.Slot.{IsStretch, StoredLines, stored_words, spliced_into, replaced}
use Rattle.slot.proofs.EditedList.{NewList, new_list}
use Rattle.slot.proofs.EditRows.{replaces}
use Rattle.slot.proofs.ReplacedSlot.{accepted_words}
use Rattle.slot.proofs.RefusalNumbers.{number_not_0}

-- in an edit under way: the slot's lines are told, the stretch is tested, and the old records are spliced into a list
module _ {s starts ins list old : List ℕ} {stored : Stored} {place deleted : ℕ} {t : Stretch}
    (len : length s ≡ slot_length) (told : StoredLines s starts stored) (h : IsStretch s place deleted ins t)
    (o : old ≡ stored_words s)
    (into : list ≡ spliced_into (zeros records_length) old (6 * t.place) (6 * (t.place + t.deleted)) ins) where
  abbrev made : List ℕ
  made = take (length old - 6 * t.deleted + length ins) list

  abbrev new : List Rec
  new = edited s place deleted ins

  new_is : NewList s place deleted ins t made
  new_is = new_list len told h o into

  abbrev new_lines : List Line
  new_lines = compose (measure_of s) (indent_of s) (units new)

  replacing : (a : Answer) (words : List ℕ) → ◌≡◌ {A = Outcome Answer} (a, words) (replaced s (paragraph made)) →
      edit_slot s place deleted ins ≡ (reporting a (edit_redone s place deleted ins), words)
  replacing a words e =
      sym (replaces s place deleted ins told.sound_is t h) ∙ rw (← (e ∙ ap (replaced s) new_is.records))

  -- the first records of the old lines, and the line words of the new ones, each list as long as there are lines
  module _ (long : length starts ≡ most_records) {words : List ℕ} {count : ℕ}
      (e : ◌≡◌ {A = Outcome Answer} (says 0 count, words) (replaced s (paragraph made))) where
    abbrev olds : List ℕ
    olds = take stored.lines starts

    abbrev lines : List ℕ
    lines = take (lines_at + 3 * count - lines_at) (drop lines_at words)

    accepted : (count ≡ length new_lines) × (words ≡ slot_words (setting_of s) new)
    accepted = accepted_words s new count words (e ∙ ap (replaced s) new_is.records)

    length_olds : length olds ≡ stored.lines
    length_olds = length-take-le stored.lines starts (omega (arith, told.few_lines))

    few_new : count ≤ most_records
    few_new = omega (arith, accepted.0, composed_few (measure_of s) (indent_of s) new, new_is.new_few)

    length_lines : length lines ≡ 3 * count
    length_lines =
        length-take-le (lines_at + 3 * count - lines_at) (drop lines_at words)
        (omega (
          arith,
          length-drop lines_at words,
          ap length accepted.1,
          length_slot (setting_of s) new new_is.new_few,
          few_new,
        ))
        ∙ omega arith

    reports : {redone : ℕ} → Reported olds lines t redone → redone ≡ edit_redone s place deleted ins
    unfolding lines_redone
    reports {redone} r =
        let was : Starts olds (length olds) (ruled_lines s) =
        record {
          count = length_olds ∙ told.lines_are.count;
          first = λ j l.
              get_or-take stored.lines starts j 0 (omega (arith, length_olds))
              ∙ told.lines_are.first j (omega (arith, length_olds));
        } in
        let now : LineWords lines (length lines / 3) new_lines =
        record {
          count = omega (arith, length_lines, accepted.0);
          first = λ j l.
              get_or-take (lines_at + 3 * count - lines_at) (drop lines_at words) (3 * j) 0
              (omega (arith, length_lines))
              ∙ rw accepted.1
              (slot_firsts (setting_of s) new new_is.new_few j (omega (arith, length_lines, accepted.0)));
        } in
        let k : t.inserted ≡ length (records ins 0 (length ins / 6)) =
        omega (arith, length_records ins 0 (length ins / 6), h.inserted_is) in
        r (ruled_lines s) new_lines was now ∙ rw (h.place_is, h.deleted_is, k)

    pub accepted_answer : {redone : ℕ} → Reported olds lines t redone →
        ◌≡◌ {A = Outcome EditAnswer} (edit_says 0 count redone, words) (edit_slot s place deleted ins)
    accepted_answer r = rw (reports r, replacing (says 0 count) words e)

  -- refused, as the new records are
  pub refused_answer : {words : List ℕ} (e : Refusal) →
      ◌≡◌ {A = Outcome Answer} (refused_with e, words) (replaced s (paragraph made)) →
      ◌≡◌ {A = Outcome EditAnswer} (edit_says (number_of e) (place_of e) 0, words) (edit_slot s place deleted ins)
  refused_answer {words} e r =
      rw (replacing (refused_with e) words r, ne_eqb (number_of e) 0 (number_not_0 e))
