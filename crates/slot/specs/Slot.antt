-- One slot's words, in pieces, as the program writes them.
--
--   head of      the eight words of a head, with the slot's setting and other counts
--   spliced      the words of a record list with a stretch replaced
--   fits         a stretch within a record list, where the list with it replaced has room
--   is damaged   the refusal of a slot that is not sound
--   is edit answer of    what an edit answers, as C sees it
--   is stretch   the stretch that an edit of a slot names; is refused edit: why it names none
--   stored lines    the lines that the rules give a sound slot's records, by their first records
--   replaced     what becomes of a slot whose records are to be others: the answer, and the slot's words
--
-- Assumes nothing.
use Rattle.std.specs.Prelude.{◌≡◌, ℕ, ◌+◌, ◌*◌, ◌-◌, ◌≤◌, true, false, cond, eqb}
use Rattle.std.specs.Prelude.{List, ◌++◌, Result, length, take, drop}
use Rattle.rules.specs.Layout.{most_records, record_length, records_length, records_at}
use Rattle.rules.specs.Records.{Rec}
use Rattle.rules.specs.Sheet.{head, slot_words, count_of, measure_of, indent_of, setting_of}
use Rattle.rules.specs.Refusals.{Answer, edit_says, Outcome, judged, sound, edit_slot}
use Rattle.rules.specs.Numbers.{number_of, place_of, edit_answer_from}
use Rattle.rules.specs.Stable.{ruled_lines}
use Rattle.rules.specs.declared.refusal.Refusal.{Refusal}
use Rattle.rules.specs.declared.refusal.Refusal.TheVariants.{Damaged}
use Rattle.rules.specs.declared.answer.Edited.{Edited}
use Rattle.rules.specs.declared.measure.Measure.{Measure}
use Rattle.slot.specs.declared.edit.EditAnswer.{EditAnswer}
use Rattle.slot.specs.declared.edit.Stored.{Stored}
use Rattle.slot.specs.declared.stretch.Stretch.{Stretch}
use Rattle.slot.specs.Redone.{Starts}

abbrev pub head_of : List ℕ → ℕ → ℕ → List ℕ
head_of s n lines = head (setting_of s) n lines

-- words up to `before`, then others, then the words from `after` on
abbrev pub spliced : List ℕ → ℕ → ℕ → List ℕ → List ℕ
spliced ws before after inserted = take before ws ++ (inserted ++ drop after ws)

-- the same at the front of a list, of which the rest stays
abbrev pub spliced_into : List ℕ → List ℕ → ℕ → ℕ → List ℕ → List ℕ
spliced_into list ws before after inserted =
    spliced ws before after inserted ++ drop (before + length inserted + (length ws - after)) list

-- n words with the stretch replaced by k others
pub record Fits (n k : ℕ) (t : Stretch) : Type 0 where
  pub within : record_length * (t.place + t.deleted) ≤ n
  pub room : record_length * t.place + k + (n - record_length * (t.place + t.deleted)) ≤ records_length

-- the words of its records
abbrev pub stored_words : List ℕ → List ℕ
stored_words s = take (records_at + record_length * count_of s - records_at) (drop records_at s)

abbrev pub IsDamaged : List ℕ → Refusal → Type 0
IsDamaged s e = (e ≡ Damaged) × (sound s ≡ false)

abbrev pub IsEditAnswerOf : Result Edited Refusal → EditAnswer → Type 0
IsEditAnswerOf r a = edit_says a.number a.place a.redone ≡ edit_answer_from r

-- the stretch is there, what comes in is whole records, and there is room for them
pub record IsStretch (s : List ℕ) (place deleted : ℕ) (inserted : List ℕ) (t : Stretch) : Type 0 where
  pub place_is : t.place ≡ place
  pub deleted_is : t.deleted ≡ deleted
  pub inserted_is : length inserted ≡ record_length * t.inserted
  pub within : place + deleted ≤ count_of s
  pub room : count_of s - deleted + t.inserted ≤ most_records

abbrev pub IsRefusedEdit : List ℕ → ℕ → ℕ → List ℕ → Refusal → Type 0
IsRefusedEdit s place deleted inserted e =
    (edit_says (number_of e) (place_of e) 0, s) ≡ edit_slot s place deleted inserted

abbrev pub InMeasure : List ℕ → Measure → Type 0
InMeasure s m = (m.measure ≡ measure_of s) × (m.indent ≡ indent_of s)

pub record StoredLines (s starts : List ℕ) (stored : Stored) : Type 0 where
  pub sound_is : sound s ≡ true
  pub in_measure : InMeasure s stored.measure
  pub few_lines : stored.lines ≤ most_records
  pub lines_are : Starts starts stored.lines (ruled_lines s)

unfoldable pub replaced : List ℕ → List Rec → Outcome Answer
replaced s rs =
    let a = judged (measure_of s) (indent_of s) rs in
    (a, cond (eqb a.number 0) (slot_words (setting_of s) rs) s)
