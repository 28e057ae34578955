-- The calls on a sheet, by the definitions that their contracts cite, and the words of a sheet whose slots hold what a
-- book's slots hold: what demand 3 is proved by. The calls, their replies and the book are specs/Book.antt.
--
--   in slot      a call on a slot, on the slot's words
--   step         a call on a sheet
--   encode       the words of a sheet whose slots hold what the book's slots hold
--
-- Assumes nothing.
use Rattle.std.specs.Prelude.{ℕ, ◌*◌, cond, List, [], ◌∷◌, ◌++◌, eqb, take, drop}
use Rattle.rules.specs.Basics.{first_of}
use Rattle.rules.specs.Layout.{line_length, lines_at}
use Rattle.rules.specs.Sheet.{slot_words, line_count_of}
use Rattle.rules.specs.Refusals.{says, Outcome, edit_slot, on_slot, read_rows, set_up}
use Rattle.rules.specs.Pool.{taking, give_back_slot}
use Rattle.leaflet.specs.Reader.{words_in}
use Rattle.sheet.specs.Import.{replace_slot, unless_fault}
use Rattle.sheet.specs.Book.{SlotCall, edits, imports, reads, gives_back, Call, call_set_up, call_take, call_on}
use Rattle.sheet.specs.Book.{Reply, answer_reply, edit_reply, read_reply, refusal, fault_of, BookSlot}

-- a read of slot s by its own clinic: the slot's used line words
abbrev pub read_slot : List ℕ → Reply
read_slot s =
    let n = (first_of (read_rows s) (says 0 0)).number in
    read_reply n (cond (eqb n 0) (take (line_length * line_count_of s) (drop lines_at s)) [])

-- a call on slot s by its own clinic
abbrev pub in_slot : SlotCall → List ℕ → Outcome Reply
in_slot (edits place deleted inserted) s = let o = edit_slot s place deleted inserted in (edit_reply o.0, o.1)
in_slot (imports size text) s = let o = replace_slot s (words_in size text) in (edit_reply o.0, o.1)
in_slot reads s = (read_slot s, s)
in_slot gives_back s = let o = give_back_slot s in (answer_reply o.0, o.1)

abbrev pub step : Call → List ℕ → Outcome Reply
step (call_set_up clinics measures indents) ws =
    let o = set_up ws clinics measures indents in (answer_reply o.0, o.1)
step (call_take caller) ws = let o = taking ws caller.0 in (answer_reply o.0, o.1)
step (call_on caller k q) ws =
    unless_fault edit_reply (fault_of q) ws (on_slot (refusal q) ws caller.0 k.0 (in_slot q))

-- each call gets the sheet as the last one left it
abbrev pub run_sheet : List Call → List ℕ → List Reply × List ℕ
run_sheet [] ws = ([], ws)
run_sheet (c ∷ calls) ws =
    let o = step c ws in
    let l = run_sheet calls o.1 in
    (o.0 ∷ l.0, l.1)

-- The book's words --------------------------------------------------------------------------------------------------

abbrev pub encode_slot : BookSlot → List ℕ
encode_slot s = slot_words s.setting s.records

abbrev pub encode : List BookSlot → List ℕ
encode [] = []
encode (s ∷ b) = encode_slot s ++ encode b

-- what comes with a book, with the book's words
abbrev pub in_words : {A : Type 0} → A × List BookSlot → Outcome A
in_words o = (o.0, encode o.1)
