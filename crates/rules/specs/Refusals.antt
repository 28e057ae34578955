-- "Calls and answers": what each call answers and leaves. A call's table has a row for each number that it gives, in
-- the order in which they are checked; the first row that applies is the answer.
--
--   answer       a number and a place; success is 0 and the line count (set-up: 0 and P)
--   outcome      what a call answers, and the words afterwards; "Every refusal leaves the whole sheet unchanged."
--   judged       answers 8, 12, 9 and 10 of records in a measure
--   sound        a slot to which answer 4 does not apply
--   splice       the named stretch of records replaced
--   lines redone    the lines that an edit composes anew
--   on slot      a call on one slot of a sheet, by what it does to the slot's words
--
-- Assumes nothing.
use Rattle.std.specs.Prelude.{ℕ, zero, suc, ◌+◌, ◌*◌, ◌-◌, ◌/◌, ◌%◌, Bool, true, false, cond, not, ◌&&◌, ◌||◌}
use Rattle.std.specs.Prelude.{List, [], ◌∷◌, ◌++◌, leb, ltb, eqb, length, take, drop, get_or, Option, None}
use Rattle.std.specs.Prelude.{Some}
use Rattle.rules.specs.Basics.{first_of}
use Rattle.rules.specs.Layout.{most_records, record_length, line_length, slot_length, lines_at}
use Rattle.rules.specs.Records.{Rec, records, bad_record}
use Rattle.rules.specs.Listed.{not_listed}
use Rattle.rules.specs.Groups.{group_fault, units}
use Rattle.rules.specs.Breaks.{no_breaking}
use Rattle.rules.specs.Adjustment.{compose}
use Rattle.rules.specs.Redone.{report}
use Rattle.rules.specs.Sheet.{Setting, setting, slot_words, fresh, clinic_of, measure_of, indent_of, setting_of}
use Rattle.rules.specs.Sheet.{count_of, line_count_of, in_use_of, records_of, limits_ok, slot_limits_ok}
use Rattle.rules.specs.Sheet.{slot_count, length_ok, slot_at, with_slot}

pub record Answer : Type 0 where
  pub number : ℕ
  pub place : ℕ

abbrev pub says : ℕ → ℕ → Answer
says n p = record { number = n; place = p }

-- An edit's answer is a type of its own, apart from set-up's: it tells the lines redone too
pub record EditAnswer : Type 0 where
  pub number : ℕ
  pub place : ℕ
  pub redone : ℕ

abbrev pub edit_says : ℕ → ℕ → ℕ → EditAnswer
edit_says n p redone = record { number = n; place = p; redone = redone }

-- a refusal of the tables, as an edit gives it: "a refused one reports 0"
abbrev pub as_edit : Answer → EditAnswer
as_edit a = edit_says a.number a.place 0

-- an answer of the tables, with the lines redone where it is 0
abbrev pub reporting : Answer → ℕ → EditAnswer
reporting a redone = edit_says a.number a.place (cond (eqb a.number 0) redone 0)

abbrev pub Outcome : Type 0 → Type 0
Outcome A = A × List ℕ

-- 8 to 12 name a place where they apply
abbrev pub or_else : ℕ → Option ℕ → Answer → Answer
or_else n None a = a
or_else n (Some i) a = says n i

-- records in a measure m with an indent x: 8, 12, 9, 10, or 0 and the line count. "New answer 12, checked after 8 and
-- before 9"
unfoldable pub judged : ℕ → ℕ → List Rec → Answer
judged m x rs =
    or_else 8 (bad_record 0 rs)
    (or_else 12 (not_listed 0 rs)
    (or_else 9 (group_fault rs)
    (or_else 10 (no_breaking m x (units rs))
    (says 0 (length (compose m x (units rs)))))))

-- 4: "the slot's measure or indent is out of limits, its count is over 256, or its stored records fall under 8, 9 or
-- 10"; "Answer 4 covers 12 too"; "an in-use word above 1 counts under 4"
unfoldable pub sound : List ℕ → Bool
sound s =
    limits_ok (measure_of s) (indent_of s) && leb (count_of s) most_records && leb (in_use_of s) 1
    && eqb (judged (measure_of s) (indent_of s) (records_of s)).number 0

-- "the deleted records go out at the place and the inserted ones come in there"
unfoldable pub splice : List Rec → ℕ → ℕ → List Rec → List Rec
splice rs place deleted new = take place rs ++ (new ++ drop (place + deleted) rs)

-- how many lines it composes anew in a measure m with an indent x: "Old lines are those that the rules give the old
-- records"
unfoldable pub lines_redone : ℕ → ℕ → List Rec → ℕ → ℕ → List Rec → ℕ
lines_redone m x rs place deleted new =
    report place deleted (length new) (compose m x (units rs)) (compose m x (units (splice rs place deleted new)))

-- the records that words are, six to a record
abbrev pub records_in : List ℕ → List Rec
records_in words = records words 0 (length words / record_length)

-- a slot's records as an edit leaves them
abbrev pub edited : List ℕ → ℕ → ℕ → List ℕ → List Rec
edited s place deleted inserted = splice (records_of s) place deleted (records_in inserted)

abbrev pub edit_redone : List ℕ → ℕ → ℕ → List ℕ → ℕ
edit_redone s place deleted inserted =
    lines_redone (measure_of s) (indent_of s) (records_of s) place deleted (records_in inserted)

-- the rows 4 to 7 of an edit of slot s
unfoldable pub slot_rows : List ℕ → ℕ → ℕ → List ℕ → List (Bool × Answer)
slot_rows s place deleted inserted =
    (not (sound s), says 4 0)
    ∷ (ltb (count_of s) place || ltb (count_of s) (place + deleted), says 5 (count_of s))
    ∷ (not (eqb (length inserted % record_length) 0), says 6 0)
    ∷ (ltb most_records (count_of s - deleted + length inserted / record_length), says 7 0)
    ∷ []

-- an edit of slot s by its own clinic: the answer, and the slot's words. "An accepted edit keeps clinic, measure and
-- indent and writes every other word of its slot"; of "in use": "an edit keeps it"
unfoldable pub edit_slot : List ℕ → ℕ → ℕ → List ℕ → Outcome EditAnswer
edit_slot s place deleted inserted =
    let rs = edited s place deleted inserted in
    let a = first_of (slot_rows s place deleted inserted) (judged (measure_of s) (indent_of s) rs) in (
      reporting a (edit_redone s place deleted inserted),
      cond (eqb a.number 0) (slot_words (setting_of s) rs) s,
    )

-- the rows 1 to 3 and 14, with which each call on a slot begins; 3 looks at no word of the slot but its clinic, and 14
-- at no other but "in use": "on a slot not in use stands after 3 and before 4"
unfoldable pub entry_rows : List ℕ → ℕ → ℕ → List (Bool × Answer)
entry_rows ws caller k =
    (not (length_ok (length ws)), says 1 0)
    ∷ (leb (slot_count ws) k, says 2 0)
    ∷ (eqb caller 0 || not (eqb caller (clinic_of (slot_at ws k))), says 3 0)
    ∷ (eqb (in_use_of (slot_at ws k)) 0, says 14 0)
    ∷ []

-- the answer of these rows: 0 where none applies
unfoldable pub entry_answer : List ℕ → ℕ → ℕ → Answer
entry_answer ws caller k = first_of (entry_rows ws caller k) (says 0 0)

-- a call on slot k: f gives its answer and the slot's words afterwards, where none of these rows applies; where one
-- does, `refused` gives the answer, and the sheet stays as it is. "It works on the part of the sheet that is the
-- named slot."
unfoldable pub on_slot : {A : Type 0} → (Answer → A) → List ℕ → ℕ → ℕ → (List ℕ → Outcome A) → Outcome A
on_slot refused ws caller k f =
    let a = entry_answer ws caller k in
    let o = f (slot_at ws k) in
    cond (eqb a.number 0) (o.0, with_slot ws k o.1) (refused a, ws)

-- edit of slot k by a caller
unfoldable pub edit : List ℕ → ℕ → ℕ → ℕ → ℕ → List ℕ → Outcome EditAnswer
edit ws caller k place deleted inserted = on_slot as_edit ws caller k (λ s. edit_slot s place deleted inserted)

-- the row 4 of a read of slot s
unfoldable pub read_rows : List ℕ → List (Bool × Answer)
read_rows s = (ltb most_records (line_count_of s) || ltb 1 (in_use_of s), says 4 0) ∷ []

-- read: "0, or 1, 2, 3, then 4 if the stored line count exceeds 256", with 14 after 3, and an in-use word above 1 under
-- 4
unfoldable pub read_number : List ℕ → ℕ → ℕ → ℕ
read_number ws caller k = (first_of (entry_rows ws caller k ++ read_rows (slot_at ws k)) (says 0 0)).number

-- where in the sheet the words that a read hands back start, and how many they are: "A refused read hands back an
-- empty part."
unfoldable pub read_start : List ℕ → ℕ → ℕ → ℕ
read_start ws caller k = cond (eqb (read_number ws caller k) 0) (slot_length * k + lines_at) 0

unfoldable pub read_length : List ℕ → ℕ → ℕ → ℕ
read_length ws caller k = cond (eqb (read_number ws caller k) 0) (line_length * line_count_of (slot_at ws k)) 0

-- by start and end
abbrev pub read_part : List ℕ → ℕ → ℕ → ℕ × ℕ
read_part ws caller k = (read_start ws caller k, read_start ws caller k + read_length ws caller k)

unfoldable pub read_words : List ℕ → ℕ → ℕ → List ℕ
read_words ws caller k = take (read_length ws caller k) (drop (read_start ws caller k) ws)

-- slot k's setting by the three lists of a set-up
abbrev pub setting_at : List ℕ → List ℕ → List ℕ → ℕ → Setting
setting_at clinics measures indents k = setting (get_or clinics k 0) (get_or measures k 0) (get_or indents k 0)

-- 11: "a clinic, measure or indent out of limits", "first such slot", counted from k
unfoldable pub bad_slot : ℕ → List ℕ → List ℕ → List ℕ → ℕ → Option ℕ
bad_slot k clinics measures indents zero = None
bad_slot k clinics measures indents (suc n) =
    elim (slot_limits_ok (setting_at clinics measures indents k)) [
      | true ↦ bad_slot (suc k) clinics measures indents n
      | false ↦ Some k
    ]

-- fresh slots of three lists, n of them from slot k on
unfoldable pub fresh_slots : ℕ → List ℕ → List ℕ → List ℕ → ℕ → List ℕ
fresh_slots k clinics measures indents zero = []
fresh_slots k clinics measures indents (suc n) =
    fresh (setting_at clinics measures indents k) ++ fresh_slots (suc k) clinics measures indents n

-- the row 1 of a set-up of a sheet of n words
unfoldable pub set_up_rows : ℕ → List ℕ → List ℕ → List ℕ → List (Bool × Answer)
set_up_rows n clinics measures indents =
    let p = n / slot_length in
    let another : List ℕ → Bool = λ numbers. not (eqb (length numbers) p) in
    (not (length_ok n) || another clinics || another measures || another indents, says 1 0) ∷ []

-- set-up: "gives 1 and 11 only"
unfoldable pub set_up_answer : ℕ → List ℕ → List ℕ → List ℕ → Answer
set_up_answer n clinics measures indents =
    let p = n / slot_length in
    first_of (set_up_rows n clinics measures indents) (or_else 11 (bad_slot 0 clinics measures indents p) (says 0 p))

unfoldable pub set_up : List ℕ → List ℕ → List ℕ → List ℕ → Outcome Answer
set_up ws clinics measures indents =
    let a = set_up_answer (length ws) clinics measures indents in
    (a, cond (eqb a.number 0) (fresh_slots 0 clinics measures indents (slot_count ws)) ws)
