-- Demand 3, to be read from top to bottom: all that one must believe of the claim `demand_3` (proofs/Claims.antt),
-- beside the book itself, which is specs/Book.antt, and the rules of crate `rules`. Definitions alone. They stand here
-- and not in specs/, as they are of runs of the calls themselves: `edit_reads.Learnt` and the like are what Rattle
-- reads of the contracts in src/, so that a change of a contract changes the claim.
--
--   run          of a call: its arguments, its result, its parameters at exit, and what the call's own contract
--                promises of these
--   call         of a run: what was called, in the words of the book
--   before, after, reply    the sheet's words before the run and after it, and what was answered
--   chained      each run gets the sheet as the last one left it
--   begun        the runs begin with an accepted set-up, after refused ones or none
--   as booked    what is claimed of runs that are both
--
-- Assumes nothing.
use Rattle.std.proofs.Common.{◌≡◌, ℕ, ◌-◌, ◌≤◌, ◌<◌, true, List, [], ◌∷◌, ◌++◌, map, length, take, drop}
use borrow.Fn.Kinds.{ParamKind, ResultKind, Out, Dens, res_t, ended_of}
use contract.Lifetimes.{Lfts}
use denote.Triple.Clauses.{AtExit}
use Rattle.rules.specs.Records.{record_words}
use Rattle.rules.specs.Sheet.{length_ok, slot_count, slot_at}
use Rattle.rules.specs.Refusals.{says, edit_says}
use Rattle.rules.specs.Meanings.{All}
use Rattle.sheet.specs.Book.{Call, call_set_up, call_take, call_on, edits, imports, reads, gives_back}
use Rattle.sheet.specs.Book.{Reply, answer_reply, edit_reply, read_reply, number_of}
use Rattle.sheet.specs.Book.{BookSlot, book_at, fresh_slot, single, run_book, History, anew, history_from, Follows}
use Rattle.sheet.specs.declared.entry.Clinic.{Clinic}
use Rattle.sheet.specs.declared.entry.SlotNumber.{SlotNumber}
use Rattle.sheet.proofs.setting_up.set_up.Kinds as set_up_kinds
use Rattle.sheet.proofs.setting_up.set_up.Reads as set_up_reads
use Rattle.sheet.proofs.taking.take.Kinds as take_kinds
use Rattle.sheet.proofs.taking.take.Reads as take_reads
use Rattle.sheet.proofs.taking.give_back.Kinds as give_back_kinds
use Rattle.sheet.proofs.taking.give_back.Reads as give_back_reads
use Rattle.sheet.proofs.editing.edit.Kinds as edit_kinds
use Rattle.sheet.proofs.editing.edit.Reads as edit_reads
use Rattle.sheet.proofs.importing.import.Kinds as import_kinds
use Rattle.sheet.proofs.importing.import.Reads as import_reads
use Rattle.sheet.proofs.reading.read.Kinds as read_kinds
use Rattle.sheet.proofs.reading.read.Reads as read_reads
use Rattle.sheet.proofs.reading.read_part.Kinds as part_kinds
use Rattle.sheet.proofs.reading.read_part.Reads as part_reads
use Rattle.sheet.proofs.reading.read_number.Kinds as number_kinds
use Rattle.sheet.proofs.reading.read_number.Reads as number_reads

-- Runs --------------------------------------------------------------------------------------------------------------

-- a run of a function with n lifetimes, parameters ps and result r, whose contract promises `Learnt`
pub record Ran (n : ℕ) (ps : List (ParamKind n)) (r : ResultKind n) (Learnt : Out n ps r) : Type 0 where
  pub κs : Lfts n
  pub args : Dens κs ps
  pub result : (res_t r κs).Denot
  pub exit : AtExit (ended_of n ps r) κs
  pub learnt : Learnt κs args result exit

abbrev pub SetUpRun : Type 0
SetUpRun = Ran 4 set_up_kinds.ps set_up_kinds.r set_up_reads.Learnt

abbrev pub TakeRun : Type 0
TakeRun = Ran 1 take_kinds.ps take_kinds.r take_reads.Learnt

abbrev pub GiveBackRun : Type 0
GiveBackRun = Ran 1 give_back_kinds.ps give_back_kinds.r give_back_reads.Learnt

abbrev pub EditRun : Type 0
EditRun = Ran 2 edit_kinds.ps edit_kinds.r edit_reads.Learnt

abbrev pub ImportRun : Type 0
ImportRun = Ran 2 import_kinds.ps import_kinds.r import_reads.Learnt

-- a read hands back a part of the sheet, or tells its start and end; its companion gives the number
abbrev pub SliceRun : Type 0
SliceRun = Ran 1 read_kinds.ps read_kinds.r read_reads.Learnt

abbrev pub PartRun : Type 0
PartRun = Ran 1 part_kinds.ps part_kinds.r part_reads.Learnt

abbrev pub NumberRun : Type 0
NumberRun = Ran 1 number_kinds.ps number_kinds.r number_reads.Learnt

-- "read and its companion together are one read" --------------------------------------------------------------------

-- one of the two: what it was told, and the sheet's words that it found and left
pub record Look : Type 0 where
  pub caller : Clinic
  pub slot : SlotNumber
  pub found : List ℕ
  pub left : List ℕ

abbrev pub slice_look : SliceRun → Look
slice_look u =
    let (sheet, (caller, (slot, _))) = u.args in
    record { caller = caller; slot = slot; found = sheet.now; left = u.exit.0.now }

abbrev pub part_look : PartRun → Look
part_look u =
    let (sheet, (caller, (slot, _))) = u.args in
    record { caller = caller; slot = slot; found = sheet.now; left = u.exit.0.now }

abbrev pub number_look : NumberRun → Look
number_look u =
    let (sheet, (caller, (slot, _))) = u.args in
    record { caller = caller; slot = slot; found = sheet.now; left = u.exit.0.now }

-- two of them one after the other, in either order: the sheet before both, and after both
pub data InTurn (a b : Look) : List ℕ → List ℕ → Type 0 where
  the_one_first : a.left ≡ b.found → InTurn a b a.found b.left
  the_other_first : b.left ≡ a.found → InTurn a b b.found a.left

-- and told the same things
pub record Together (a b : Look) : Type 0 where
  pub found : List ℕ
  pub left : List ℕ
  pub in_turn : InTurn a b found left
  pub same_caller : b.caller ≡ a.caller
  pub same_slot : b.slot ≡ a.slot

pub record ReadRun : Type 0 where
  pub part : SliceRun
  pub number : NumberRun
  pub together : Together (slice_look part) (number_look number)

pub record ReadPartRun : Type 0 where
  pub part : PartRun
  pub number : NumberRun
  pub together : Together (part_look part) (number_look number)

-- A run of any call -------------------------------------------------------------------------------------------------

pub data CallRun : Type 0 where
  set_up_run : SetUpRun → CallRun
  take_run : TakeRun → CallRun
  give_back_run : GiveBackRun → CallRun
  edit_run : EditRun → CallRun
  import_run : ImportRun → CallRun
  read_run : ReadRun → CallRun
  read_part_run : ReadPartRun → CallRun

-- what was called: the arguments by name, in the order of the function in src/
abbrev pub call : CallRun → Call
call (set_up_run u) =
    let (sheet, (clinics, (measures, (indents, _)))) = u.args in
    call_set_up clinics.now measures.now indents.now
call (take_run u) = let (sheet, (caller, _)) = u.args in call_take caller
call (give_back_run u) = let (sheet, (caller, (slot, _))) = u.args in call_on caller slot gives_back
call (edit_run u) =
    let (sheet, (caller, (slot, (place, (deleted, (inserted, _)))))) = u.args in
    call_on caller slot (edits place deleted inserted.now)
call (import_run u) =
    let (sheet, (caller, (slot, (size, (text, _))))) = u.args in
    call_on caller slot (imports size text.now)
call (read_run u) = let a = slice_look u.part in call_on a.caller a.slot reads
call (read_part_run u) = let a = part_look u.part in call_on a.caller a.slot reads

-- the sheet, every call's first parameter: its words before and after
abbrev pub before : CallRun → List ℕ
before (set_up_run u) = u.args.0.now
before (take_run u) = u.args.0.now
before (give_back_run u) = u.args.0.now
before (edit_run u) = u.args.0.now
before (import_run u) = u.args.0.now
before (read_run u) = u.together.found
before (read_part_run u) = u.together.found

abbrev pub after : CallRun → List ℕ
after (set_up_run u) = u.exit.0.now
after (take_run u) = u.exit.0.now
after (give_back_run u) = u.exit.0.now
after (edit_run u) = u.exit.0.now
after (import_run u) = u.exit.0.now
after (read_run u) = u.together.left
after (read_part_run u) = u.together.left

-- the words from `start` up to `end`
abbrev pub between : ℕ → ℕ → List ℕ → List ℕ
between start end ws = take (end - start) (drop start ws)

-- what was answered
abbrev pub reply : CallRun → Reply
reply (set_up_run u) = let a = u.result in answer_reply (says a.number a.place)
reply (take_run u) = let a = u.result in answer_reply (says a.number a.place)
reply (give_back_run u) = let a = u.result in answer_reply (says a.number a.place)
reply (edit_run u) = let a = u.result in edit_reply (edit_says a.number a.place a.redone)
reply (import_run u) = let a = u.result in edit_reply (edit_says a.number a.place a.redone)
reply (read_run u) = read_reply u.number.result u.part.result.now
reply (read_part_run u) =
    let p = u.part.result in read_reply u.number.result (between p.start p.end u.together.left)

-- Sequences of runs -------------------------------------------------------------------------------------------------

-- on a sheet of the words ws: "each later call gets the whole sheet as the last one left it"
abbrev pub Chained : List ℕ → List CallRun → Type 0
Chained ws [] = Unit {0}
Chained ws (r ∷ rs) = (before r ≡ ws) × Chained (after r) rs

-- the sheet after the last
abbrev pub final : List ℕ → List CallRun → List ℕ
final ws [] = ws
final ws (r ∷ rs) = final (after r) rs

pub data Begun : List CallRun → Type 0 where
  accepted_first : {u : SetUpRun} {rs : List CallRun} → u.result.number ≡ 0 → Begun (set_up_run u ∷ rs)
  refused_first : {u : SetUpRun} {rs : List CallRun} → (u.result.number ≡ 0 → ⊥) → Begun rs →
      Begun (set_up_run u ∷ rs)

-- the book's replies and its slots after some runs on a sheet of n words
abbrev pub booked : ℕ → List CallRun → List Reply × List BookSlot
booked n rs = run_book n (map call rs) []

-- slot k's history: by what these runs called, and what was answered
abbrev pub history : ℕ → List CallRun → History
history k rs = history_from k (anew 0) (map call rs) (map reply rs)

-- What is claimed ---------------------------------------------------------------------------------------------------

-- the words w of a slot s are those of the single edit; and on any sheet with such a fresh slot j, every run of the
-- edit by the slot's clinic, at place 0, that deletes nothing and inserts the words of all records, is accepted and
-- leaves w. An unassigned slot has no clinic to call, and no records; nor has one that is not in use, which answers 14
pub record BySingleEdit (s : BookSlot) (w : List ℕ) : Type 0 where
  pub slot : single s ≡ w
  pub in_use_or_not : s.setting.in_use ≤ 1
  pub unassigned : s.setting.clinic ≡ 0 → s.records ≡ []
  pub unused : s.setting.in_use ≡ 0 → s.records ≡ []
  pub by_run : (r : CallRun) (c : Clinic) (j : SlotNumber) →
      call r ≡ call_on c j (edits 0 0 (record_words s.records)) → c.0 ≡ s.setting.clinic → (c.0 ≡ 0 → ⊥) →
      s.setting.in_use ≡ 1 → length_ok (length (before r)) ≡ true → j.0 < slot_count (before r) →
      slot_at (before r) j.0 ≡ fresh_slot s →
      (number_of (reply r) ≡ 0) × (slot_at (after r) j.0 ≡ w)

pub record AsBooked (ws : List ℕ) (rs : List CallRun) : Type 0 where
  -- every call answers what the book answers
  pub answers : map reply rs ≡ (booked (length ws) rs).0
  -- the sheet is as long as it was, and each slot holds what the single edit of the book's records leaves
  pub whole : length (final ws rs) ≡ length ws
  pub slots : (k : ℕ) → k < slot_count ws → BySingleEdit (book_at (booked (length ws) rs).1 k) (slot_at (final ws rs) k)
  -- each slot of the book follows its history, which starts again where it is set up, taken or given back
  pub histories : (k : ℕ) → k < slot_count ws → Follows (book_at (booked (length ws) rs).1 k) (history k rs)
  -- an accepted set-up starts all of them again
  pub anew : (qs : List CallRun) (u : SetUpRun) (ts : List CallRun) → rs ≡ qs ++ set_up_run u ∷ ts →
      u.result.number ≡ 0 →
      let o = booked (length ws) (set_up_run u ∷ ts) in
      booked (length ws) rs ≡ ((booked (length ws) qs).0 ++ o.0, o.1)
  -- answer 4 never comes up
  pub never : All (λ r. number_of r ≡ 4 → ⊥) (map reply rs)
