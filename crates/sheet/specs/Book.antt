-- docs/RULES.md, "The book of demand 3": the book, the calls in it, sequences of calls, imports, takings and givings
-- back among them, and a slot's history. What demand 3 says of runs of the calls themselves is proofs/Demand3.antt; the
-- calls on a sheet are specs/OnSheet.antt.
--
--   book         for each slot its setting, in-use word included, and its records in order
--   call         set-up, a take, or a call on a slot by a caller, with its arguments; read and its companion together
--                are one
--   slot call    what is done on the slot: edit, import, read or giving back
--   reply        what a call gives its caller: a number and a place, with an edit's or import's lines redone, or a
--                read's number and words
--   book step    a call in the book, which is told the call and the sheet's length and nothing else
--   single       what a fresh slot holds after the single edit of the book's records
--   history      of a slot: whether it is in use, and its accepted edits and imports since it was last set up, taken
--                or given back, in order, by what was called and what was answered alone
--   next         slot k's history after one more call and its reply
--   made         what an accepted edit or import makes of a slot's records
--   replayed     what edits and imports make of records, one after the other
--   follows      a slot of the book has the records that its history makes of none, and is in use as that says
--
-- A call on a slot is one clause of `refusal`, `fault_of`, `in_book`, `next_by` and `made`, and of `in_slot` on the
-- sheet; the rows 1 to 3 and 14 stand once, in `on_book_slot` and in `on_slot` of crate `rules`, and 17 stands before
-- them. The book's tables have their rows in the order of "Calls and answers" there. Answer 4 has no row: it cannot
-- come up. Assumes nothing.
use Rattle.std.specs.Prelude.{◌≡◌, ℕ, zero, suc, ◌+◌, ◌-◌, ◌/◌, ◌%◌, Bool, cond, not, ◌&&◌, ◌||◌}
use Rattle.std.specs.Prelude.{List, [], ◌∷◌, ◌++◌, leb, ltb, eqb, length, get_or, set, Option, None}
use Rattle.rules.specs.Basics.{first_of}
use Rattle.rules.specs.Layout.{most_records, record_length, slot_length}
use Rattle.rules.specs.Records.{Rec, records, record_words}
use Rattle.rules.specs.Groups.{units}
use Rattle.rules.specs.Adjustment.{compose}
use Rattle.rules.specs.Sheet.{Setting, setting, with_use, line_words, fresh, length_ok}
use Rattle.rules.specs.Refusals.{Answer, says, EditAnswer, as_edit, reporting, judged, splice, lines_redone}
use Rattle.rules.specs.Refusals.{edit_slot, setting_at, set_up_answer}
use Rattle.rules.specs.Pool.{OwnSlot, own_among, take_answer}
use Rattle.leaflet.specs.Reader.{fault_in, words_in}
use Rattle.sheet.specs.Import.{unless_fault}
use Rattle.sheet.specs.declared.entry.Clinic.{Clinic}
use Rattle.sheet.specs.declared.entry.SlotNumber.{SlotNumber}

pub record BookSlot : Type 0 where
  pub setting : Setting
  pub records : List Rec

-- Calls -------------------------------------------------------------------------------------------------------------

-- a call on a slot, with what it is told beside caller and slot
pub data SlotCall : Type 0 where
  edits : (place deleted : ℕ) (inserted : List ℕ) → SlotCall
  imports : (size : ℕ) (text : List ℕ) → SlotCall
  reads : SlotCall
  gives_back : SlotCall

pub data Call : Type 0 where
  call_set_up : (clinics measures indents : List ℕ) → Call
  call_take : (caller : Clinic) → Call
  call_on : (caller : Clinic) (slot : SlotNumber) → SlotCall → Call

pub data Reply : Type 0 where
  answer_reply : Answer → Reply
  edit_reply : EditAnswer → Reply
  read_reply : (number : ℕ) (words : List ℕ) → Reply

abbrev pub number_of : Reply → ℕ
number_of (answer_reply a) = a.number
number_of (edit_reply a) = a.number
number_of (read_reply n words) = n

-- a call on a slot that one of the rows 1 to 3 and 14 refuses: "A refused read hands back an empty part."
abbrev pub refusal : SlotCall → Answer → Reply
refusal (edits place deleted inserted) a = edit_reply (as_edit a)
refusal (imports size text) a = edit_reply (as_edit a)
refusal reads a = read_reply a.number []
refusal gives_back a = answer_reply a

-- "17, which depends on the text alone": its place, where it is due
abbrev pub fault_of : SlotCall → Option ℕ
fault_of (edits place deleted inserted) = None
fault_of (imports size text) = fault_in text
fault_of reads = None
fault_of gives_back = None

-- The book ----------------------------------------------------------------------------------------------------------

abbrev pub with_records : BookSlot → List Rec → BookSlot
with_records s rs = record { setting = s.setting; records = rs }

-- the same slot with another in-use word
abbrev pub used : BookSlot → ℕ → BookSlot
used s w = record { setting = with_use s.setting w; records = s.records }

-- slot k of a book; past its end, where answer 2 is due, a slot of nobody's
abbrev pub book_at : List BookSlot → ℕ → BookSlot
book_at b k = get_or b k (record { setting = setting 0 0 0; records = [] })

-- "gives each slot its clinic, measure and indent from the three lists, and no records": n slots from slot k on
unfoldable pub empty_slots : ℕ → List ℕ → List ℕ → List ℕ → ℕ → List BookSlot
empty_slots k clinics measures indents zero = []
empty_slots k clinics measures indents (suc n) =
    record { setting = setting_at clinics measures indents k; records = [] }
    ∷ empty_slots (suc k) clinics measures indents n

-- "Set-up: it answers as the table says." That table speaks of the sheet's length and the lists alone
unfoldable pub book_set_up : ℕ → List ℕ → List ℕ → List ℕ → List BookSlot → Answer × List BookSlot
book_set_up n clinics measures indents b =
    let a = set_up_answer n clinics measures indents in
    (a, cond (eqb a.number 0) (empty_slots 0 clinics measures indents (n / slot_length)) b)

-- "the book keeps the in-use word too": the caller's own slots
unfoldable pub book_own : ℕ → ℕ → List BookSlot → List OwnSlot
book_own n caller b = own_among (λ k. (book_at b k).setting) caller 0 (n / slot_length)

-- a take: the table speaks of the sheet's length, the caller and the caller's own slots alone. Accepted, the granted
-- slot's word becomes 1
unfoldable pub book_take : ℕ → ℕ → List BookSlot → Answer × List BookSlot
book_take n caller b =
    let a = take_answer n caller (book_own n caller b) in
    (a, cond (eqb a.number 0) (set b a.place (used (book_at b a.place) 1)) b)

-- the rows 1 to 3 and 14
unfoldable pub book_entry_rows : ℕ → ℕ → ℕ → List BookSlot → List (Bool × Answer)
book_entry_rows n caller k b =
    (not (length_ok n), says 1 0)
    ∷ (leb (n / slot_length) k, says 2 0)
    ∷ (eqb caller 0 || not (eqb caller (book_at b k).setting.clinic), says 3 0)
    ∷ (eqb (book_at b k).setting.in_use 0, says 14 0)
    ∷ []

-- their answer: 0 where none applies
abbrev pub book_entry_answer : ℕ → ℕ → ℕ → List BookSlot → Answer
book_entry_answer n caller k b = first_of (book_entry_rows n caller k b) (says 0 0)

-- a call on slot k of the book: where none of these rows applies, g gives its reply and the slot afterwards
unfoldable pub on_book_slot :
    (Answer → Reply) → ℕ → ℕ → ℕ → (BookSlot → Reply × BookSlot) → List BookSlot → Reply × List BookSlot
on_book_slot refused n caller k g b =
    let a = book_entry_answer n caller k b in
    let o = g (book_at b k) in
    cond (eqb a.number 0) (o.0, set b k o.1) (refused a, b)

-- the rows 5 to 7 of an edit
unfoldable pub book_edit_rows : ℕ → ℕ → List ℕ → BookSlot → List (Bool × Answer)
book_edit_rows place deleted inserted s =
    let count = length s.records in
    (ltb count place || ltb count (place + deleted), says 5 count)
    ∷ (not (eqb (length inserted % record_length) 0), says 6 0)
    ∷ (ltb most_records (count - deleted + length inserted / record_length), says 7 0)
    ∷ []

-- "the deleted records go out at the place and the inserted ones come in there"
unfoldable pub book_edited : ℕ → ℕ → List ℕ → BookSlot → BookSlot
book_edited place deleted inserted s =
    with_records s (splice s.records place deleted (records inserted 0 (length inserted / record_length)))

-- "The book reports it likewise": how many lines the edit composes anew, from the book's own records
unfoldable pub book_redone : ℕ → ℕ → List ℕ → BookSlot → ℕ
book_redone place deleted inserted s =
    lines_redone s.setting.measure s.setting.indent s.records place deleted
    (records inserted 0 (length inserted / record_length))

-- "the table's number and place, or 0 and the line count that the rules give", with that report, and the slot
-- afterwards
unfoldable pub book_edit : ℕ → ℕ → List ℕ → BookSlot → EditAnswer × BookSlot
book_edit place deleted inserted s =
    let t = book_edited place deleted inserted s in
    let m = t.setting.measure in
    let a = first_of (book_edit_rows place deleted inserted s) (judged m t.setting.indent t.records) in
    (reporting a (book_redone place deleted inserted s), cond (eqb a.number 0) t s)

-- the line words that the rules give a slot's records
abbrev pub book_lines : BookSlot → List ℕ
book_lines s = line_words 0 (compose s.setting.measure s.setting.indent (units s.records))

-- a call on a slot of the book by its own clinic. An import "is its edit, on the sheet and in the book": the one at
-- place 0 that deletes all the book's records of the slot. Read: "At 0 the line words .. come with it". The book
-- "empties a slot given back"
abbrev pub in_book : SlotCall → BookSlot → Reply × BookSlot
in_book (edits place deleted inserted) s = let o = book_edit place deleted inserted s in (edit_reply o.0, o.1)
in_book (imports size text) s =
    let o = book_edit 0 (length s.records) (words_in size text) s in (edit_reply o.0, o.1)
in_book reads s = (read_reply 0 (book_lines s), s)
in_book gives_back s = (answer_reply (says 0 0), used (with_records s []) 0)

abbrev pub book_step : ℕ → Call → List BookSlot → Reply × List BookSlot
book_step n (call_set_up clinics measures indents) b =
    let o = book_set_up n clinics measures indents b in (answer_reply o.0, o.1)
book_step n (call_take caller) b = let o = book_take n caller.0 b in (answer_reply o.0, o.1)
book_step n (call_on caller k q) b =
    unless_fault edit_reply (fault_of q) b (on_book_slot (refusal q) n caller.0 k.0 (in_book q) b)

-- The single edit ---------------------------------------------------------------------------------------------------

-- "The single edit comes from the slot's clinic, at place 0, deletes nothing and inserts the words of all the book's
-- records for that slot. Where there are none, the slot stays fresh."; "its fresh slot is equally in use"
abbrev pub fresh_slot : BookSlot → List ℕ
fresh_slot s = fresh s.setting

abbrev pub single_of : BookSlot → List Rec → List ℕ
single_of s [] = fresh_slot s
single_of s (r ∷ rs) = (edit_slot (fresh_slot s) 0 0 (record_words (r ∷ rs))).1

abbrev pub single : BookSlot → List ℕ
single s = single_of s s.records

-- Sequences ---------------------------------------------------------------------------------------------------------

abbrev pub run_book : ℕ → List Call → List BookSlot → List Reply × List BookSlot
run_book n [] b = ([], b)
run_book n (c ∷ calls) b =
    let o = book_step n c b in
    let l = run_book n calls o.1 in
    (o.0 ∷ l.0, l.1)

-- Histories ---------------------------------------------------------------------------------------------------------

-- "Demand 3's history runs since the slot was last taken or given back", or set up
pub record History : Type 0 where
  pub in_use : ℕ
  pub changes : List SlotCall

-- it starts again, with this in-use word
abbrev pub anew : ℕ → History
anew w = record { in_use = w; changes = [] }

-- it goes on by one change
abbrev pub further : SlotCall → History → History
further q h = record { in_use = h.in_use; changes = h.changes ++ q ∷ [] }

-- by an accepted call on the slot
abbrev pub next_by : SlotCall → History → History
next_by (edits place deleted inserted) h = further (edits place deleted inserted) h
next_by (imports size text) h = further (imports size text) h
next_by reads h = h
next_by gives_back h = anew 0

abbrev pub accepted : Reply → Bool
accepted a = eqb (number_of a) 0

-- where a take is granted: which slot
abbrev pub place_of : Reply → ℕ
place_of (answer_reply a) = a.place
place_of (edit_reply a) = a.place
place_of (read_reply n words) = 0

abbrev pub next : ℕ → Call → Reply → History → History
next k (call_set_up clinics measures indents) a h = cond (accepted a) (anew 0) h
next k (call_take caller) a h = cond (accepted a && eqb (place_of a) k) (anew 1) h
next k (call_on caller j q) a h = cond (accepted a && eqb j.0 k) (next_by q h) h

-- after a sequence of calls and their replies
abbrev pub history_from : ℕ → History → List Call → List Reply → History
history_from k h [] replies = h
history_from k h (c ∷ calls) [] = h
history_from k h (c ∷ calls) (a ∷ replies) = history_from k (next k c a h) calls replies

-- an import replaces all records
abbrev pub made : SlotCall → List Rec → List Rec
made (edits place deleted inserted) rs = splice rs place deleted (records inserted 0 (length inserted / record_length))
made (imports size text) rs =
    let words = words_in size text in splice rs 0 (length rs) (records words 0 (length words / record_length))
made reads rs = rs
made gives_back rs = []

abbrev pub replayed : List Rec → List SlotCall → List Rec
replayed rs [] = rs
replayed rs (q ∷ qs) = replayed (made q rs) qs

pub record Follows (s : BookSlot) (h : History) : Type 0 where
  pub records : s.records ≡ replayed [] h.changes
  pub in_use : s.setting.in_use ≡ h.in_use
