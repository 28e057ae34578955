-- What is proved of the calls on a sheet, in reading order: each claim is proved by one citation. All but the last
-- speak of runs of the calls themselves, defined over their contracts in proofs/Demand3.antt, which has all that demand
-- 3 says of a sequence of runs; proofs/Runs.antt names what single runs were told and left. The other words of the
-- claims are defined in specs/: Book, OnSheet, Meanings and FreeSlots; the rules in crate `rules`, whose own
-- proofs/Claims.antt has what is proved of them alone; what a text spells and where it has its fault likewise in crate
-- `leaflet`. Assumes nothing.
use Rattle.std.proofs.Common.{◌≡◌, sym, ap, ℕ, ◌*◌, ◌/◌, ◌<◌, true, false, List, [], ◌↔◌, None, length, get_or, take}
use Rattle.std.proofs.Common.{drop}
-- words of the rules and of leaflets
use Rattle.rules.specs.Layout.{line_length, lines_at}
use Rattle.rules.specs.Basics.{Run}
use Rattle.rules.specs.Records.{Rec}
use Rattle.rules.specs.Groups.{TextUnit, units}
use Rattle.rules.specs.Breaks.{runs, breaking}
use Rattle.rules.specs.Adjustment.{Line, compose}
use Rattle.rules.specs.Sheet.{line_words, clinic_of, line_count_of, measure_of, indent_of, in_use_of, records_of}
use Rattle.rules.specs.Sheet.{length_ok}
use Rattle.rules.specs.Sheet.{slot_count, slot_at}
use Rattle.rules.specs.Refusals.{Outcome, edited}
use Rattle.rules.specs.Pool.{emptied}
use Rattle.rules.specs.Stable.{Used, used_by, used_of, ruled_lines, AsRuled, StableEdit}
use Rattle.rules.specs.Meanings.{All, Choice, Fits, Longest, FirstWide, RubyPlaced, FirstLacking, Listed}
use Rattle.leaflet.specs.Contents.{Piece, Spells, Accepted, reading}
use Rattle.leaflet.specs.Faults.{Fault}
use Rattle.leaflet.specs.Imported.{imported_records}
-- calls, the book and runs
use Rattle.sheet.specs.Book.{SlotCall, reads, Call, call_on, Reply, read_reply, number_of, fault_of, BookSlot}
use Rattle.sheet.specs.Book.{book_step}
use Rattle.sheet.specs.OnSheet.{step}
use Rattle.sheet.specs.Meanings.{Outside, AlikeFor, LeftAlike, NoneBefore12, NoEarlier, Spliced, By}
use Rattle.sheet.specs.FreeSlots.{Free, LowestFree, Takeable, OnlyTaken, Reached, up_to_4}
use Rattle.sheet.specs.declared.entry.Clinic.{Clinic}
use Rattle.sheet.specs.declared.entry.SlotNumber.{SlotNumber}
use Rattle.sheet.proofs.Demand3.{EditRun, ImportRun, TakeRun, GiveBackRun, CallRun, take_run, call, before}
use Rattle.sheet.proofs.Demand3.{after, reply, Chained, final, Begun, AsBooked}
use Rattle.sheet.proofs.Runs.{caller, slot, place, deleted, inserted, answer, slot_before, slot_after, size, text}
use Rattle.sheet.proofs.Runs.{import_answer, import_after, EditOf, taker, take_reply, give_reply, given_before}
use Rattle.sheet.proofs.Runs.{given_after, Beside, EitherOrder}
use Rattle.sheet.proofs.Demand3Proved.{as_booked, slots_as_ruled, slots_listed}
-- the contracts
use Rattle.sheet.proofs.setting_up.set_up.Statement as set_up_contract
use Rattle.sheet.proofs.taking.take.Statement as take_contract
use Rattle.sheet.proofs.taking.give_back.Statement as give_back_contract
use Rattle.sheet.proofs.editing.edit.Statement as edit_contract
use Rattle.sheet.proofs.importing.import.Statement as import_contract
use Rattle.sheet.proofs.reading.read.Statement as read_contract
use Rattle.sheet.proofs.reading.read_part.Statement as read_part_contract
use Rattle.sheet.proofs.reading.read_number.Statement as read_number_contract
-- what proves the claims
use Rattle.rules.proofs.Claims.{lines_chosen}
use Rattle.sheet.proofs.BookStays.{book_refused}
use Rattle.sheet.proofs.RunSteps.{told}
use Rattle.sheet.proofs.RunLaws.{run_unchanged, run_length, run_alike, run_frame, read_lines, read_nothing}
use Rattle.sheet.proofs.RunLaws.{read_kept, run_foreign, run_14, run_misused}
use Rattle.sheet.proofs.TwoClinicRuns.{same_first_reply, same_second_reply, same_after}
use Rattle.sheet.proofs.EditRuns.{run_splices, run_found_0, run_0, run_10, run_10_place, run_rubies, run_read}
use Rattle.sheet.proofs.EditRuns.{run_stable, run_as_ruled, run_words_stable, run_none}
use Rattle.sheet.proofs.EditRuns.{run_12, run_12_place, run_listed}
use Rattle.sheet.proofs.ImportRuns.{import_17, import_not_17, import_none, import_edit, import_has_edit}
use Rattle.sheet.proofs.ImportRuns.{import_leaves}
use Rattle.sheet.proofs.PoolRuns.{run_take_1, run_take_3, run_take_13, run_take_0, run_only_taken}
use Rattle.sheet.proofs.PoolRuns.{run_take_place, run_emptied, run_as_edit, run_give_place}
use Rattle.sheet.proofs.setting_up.set_up.Met as set_up_met
use Rattle.sheet.proofs.taking.take.Met as take_met
use Rattle.sheet.proofs.taking.give_back.Met as give_back_met
use Rattle.sheet.proofs.editing.edit.Met as edit_met
use Rattle.sheet.proofs.importing.import.Met as import_met
use Rattle.sheet.proofs.reading.read.Met as read_met
use Rattle.sheet.proofs.reading.read_part.Met as read_part_met
use Rattle.sheet.proofs.reading.read_number.Met as read_number_met

-- Demand 1: each call answers, and leaves in the sheet, what its contract says --------------------------------------

-- the code of src/ meets the contracts
pub set_up_meets : {M : Type 1} → set_up_contract.statement M
set_up_meets = set_up_met.met

pub take_meets : {M : Type 1} → take_contract.statement M
take_meets = take_met.met

pub give_back_meets : {M : Type 1} → give_back_contract.statement M
give_back_meets = give_back_met.met

pub edit_meets : {M : Type 1} → edit_contract.statement M
edit_meets = edit_met.met

pub import_meets : {M : Type 1} → import_contract.statement M
import_meets = import_met.met

pub read_meets : {M : Type 1} → read_contract.statement M
read_meets = read_met.met

pub read_part_meets : {M : Type 1} → read_part_contract.statement M
read_part_meets = read_part_met.met

pub read_number_meets : {M : Type 1} → read_number_contract.statement M
read_number_meets = read_number_met.met

-- so a run of a call replies, and leaves in the sheet, what `step` says
pub runs_step : (r : CallRun) → ◌≡◌ {A = Outcome Reply} (reply r, after r) (step (call r) (before r))
runs_step r = told r

-- every refusal leaves the whole sheet unchanged, and no call changes its length
pub refusals_change_nothing : (r : CallRun) → (number_of (reply r) ≡ 0 → ⊥) → after r ≡ before r
refusals_change_nothing r h = run_unchanged r h

pub length_kept : (r : CallRun) → length (after r) ≡ length (before r)
length_kept r = run_length r

-- Demand 2: what an edit does to its slot, and what a read hands back -----------------------------------------------

module _ (u : EditRun) where
  -- the units of the slot's new records; the slot's measure and indent
  abbrev us : List TextUnit
  us = units (edited (slot_before u) (place u) (deleted u) (inserted u))

  abbrev m : ℕ
  m = measure_of (slot_before u)

  abbrev x : ℕ
  x = indent_of (slot_before u)

  -- accepted: exactly the named stretch of records is replaced, and the slot's words are those of its records
  pub edit_splices : (answer u).number ≡ 0 →
      Spliced (slot_before u) (slot_after u) (answer u) (place u) (deleted u) (inserted u)
  edit_splices h = run_splices u h

  -- the lines are a choice of permitted breaks, every line fits, and each is the longest
  pub edit_lines : (answer u).number ≡ 0 →
      Choice us (breaking m x (runs us)) × Fits m x (breaking m x (runs us)) × Longest m x (breaking m x (runs us))
  edit_lines h = lines_chosen m x us (run_found_0 u h)

  -- the lines that the rules give the slot's records, before and after; and that an edit which found the
  -- places and lines w and left v keeps all lines before f, and all from r on but for their numbers, and reports the
  -- number of those between
  abbrev old : List Line
  old = ruled_lines (slot_before u)

  abbrev new : List Line
  new = compose m x us

  abbrev StableIn : Used → Used → Type 0
  StableIn w v = StableEdit (place u) (deleted u) (length (inserted u) / 6) old new w v (answer u).redone

  -- of the lines and their words by the rules
  pub edit_stable : (answer u).number ≡ 0 → StableIn (used_by old) (used_by new)
  edit_stable h = run_stable u h

  -- of the slot's own words, where it held what the rules give its records
  pub edit_words_stable : (answer u).number ≡ 0 → AsRuled (slot_before u) →
      StableIn (used_of (slot_before u)) (used_of (slot_after u))
  edit_words_stable h e = run_words_stable u h e

  -- as it does after every accepted edit
  pub edit_as_ruled : (answer u).number ≡ 0 → AsRuled (slot_after u)
  edit_as_ruled h = run_as_ruled u h

  -- a refused edit reports none
  pub refused_reports_none : ((answer u).number ≡ 0 → ⊥) → (answer u).redone ≡ 0
  refused_reports_none h = run_none u h

  -- no earlier answer is due; some choice of permitted breaks fits the measure
  abbrev NoneDue : Type 0
  NoneDue = NoEarlier u.args.0.now (caller u).0 (slot u).0 (place u) (deleted u) (inserted u)

  abbrev Breakable : Type 0
  Breakable = (ls : List (Run TextUnit)) × Choice us ls × Fits m x ls

  -- 0 and 10, each exactly where it is due
  pub edit_0_exactly : ((answer u).number ≡ 0) ↔ (NoneDue × Breakable)
  edit_0_exactly = run_0 u

  pub edit_10_exactly : ((answer u).number ≡ 10) ↔ (NoneDue × (Breakable → ⊥))
  edit_10_exactly = run_10 u

  -- and 12, where no answer before it is due: exactly where a record of the new list is not listed, at the first such
  abbrev NoneDueBefore12 : Type 0
  NoneDueBefore12 = NoneBefore12 u.args.0.now (caller u).0 (slot u).0 (place u) (deleted u) (inserted u)

  abbrev new_records : List Rec
  new_records = edited (slot_before u) (place u) (deleted u) (inserted u)

  pub edit_12_exactly : ((answer u).number ≡ 12) ↔ (NoneDueBefore12 × (All Listed new_records → ⊥))
  edit_12_exactly = run_12 u

  pub edit_12_place : (answer u).number ≡ 12 → FirstLacking Listed new_records (answer u).place
  edit_12_place h = run_12_place u h

  -- so each record that an accepted edit leaves stands in the list of its class
  pub edit_listed : (answer u).number ≡ 0 → All Listed (records_of (slot_after u))
  edit_listed h = run_listed u h

  -- 10 names the first record of the first run that is too wide
  pub edit_10_place : (answer u).number ≡ 10 → FirstWide m x (runs us) (answer u).place
  edit_10_place h = run_10_place u h

  -- ruby place gives every ruby character of the slot's groups its offset
  pub edit_ruby : (answer u).number ≡ 0 → All RubyPlaced (units (records_of (slot_after u)))
  edit_ruby h = run_rubies u h

  -- a read by the same caller then hands back the line words that the rules give the records
  pub read_after_edit : (answer u).number ≡ 0 → (r : CallRun) → call r ≡ call_on (caller u) (slot u) reads →
      before r ≡ u.exit.0.now → reply r ≡ read_reply 0 (line_words 0 (compose m x us))
  read_after_edit h r e f = run_read u h r e f

module _ (r : CallRun) (c : Clinic) (k : SlotNumber) (e : call r ≡ call_on c k reads) where
  -- on a sheet of any words, a read that is not refused hands back the slot's used line words
  pub read_hands_back : number_of (reply r) ≡ 0 →
      let s = slot_at (before r) k.0 in
      reply r ≡ read_reply 0 (take (line_length * line_count_of s) (drop lines_at s))
  read_hands_back h = read_lines r c k e h

  -- a refused one hands back nothing
  pub read_hands_none : (number_of (reply r) ≡ 0 → ⊥) → reply r ≡ read_reply (number_of (reply r)) []
  read_hands_none h = read_nothing r c k e h

-- What an import does -----------------------------------------------------------------------------------------------

module _ (u : ImportRun) where
  -- 17 is given exactly where the text has a fault, and names its place: whatever the sheet, the caller, the slot and
  -- the size
  pub import_17_exactly : (p : ℕ) → (((import_answer u).number ≡ 17) × ((import_answer u).place ≡ p)) ↔ Fault (text u) p
  import_17_exactly p = import_17 u p

  -- so another answer is given exactly where the text is accepted
  pub import_accepts : ((import_answer u).number ≡ 17 → ⊥) ↔ Accepted (text u)
  import_accepts = import_not_17 u

  -- a refused import reports no lines redone; that it changes nothing is `refusals_change_nothing`
  pub refused_import_reports_none : ((import_answer u).number ≡ 0 → ⊥) → (import_answer u).redone ≡ 0
  refused_import_reports_none h = import_none u h

  module _ (ps : List Piece) (s : Spells (text u) ps) where
    -- of an accepted text it is its edit: every such run of edit answers the same, and leaves the same sheet
    pub import_is_edit : (e : EditRun) → EditOf u ps e →
        (import_answer u ≡ answer e) × (u.exit.0.now ≡ e.exit.0.now)
    import_is_edit e h = import_edit u ps s e h

    -- and there is one, so that all that is claimed of edits holds of it
    pub import_edits : (e : EditRun) × EditOf u ps e
    import_edits = import_has_edit u ps s

    -- accepted: the slot has exactly the leaflet's records, and nothing of the old ones is left
    pub import_records : (import_answer u).number ≡ 0 →
        records_of (import_after u) ≡ imported_records (size u) (reading ps)
    import_records h = import_leaves u ps s h

-- What a take, a giving back and answer 14 are ----------------------------------------------------------------------

module _ (u : TakeRun) where
  -- the sheet that the take found
  abbrev found : List ℕ
  found = u.args.0.now

  -- 13 exactly where the caller has no free slot and no answer before it is due
  pub take_13_exactly : ((take_reply u).number ≡ 13)
      ↔ (Takeable found (taker u).0 × ((k : ℕ) → Free found (taker u).0 k → ⊥))
  take_13_exactly = run_take_13 u

  -- 0 and slot k exactly where that is the caller's lowest-numbered free slot
  pub take_0_exactly : (k : ℕ) →
      (((take_reply u).number ≡ 0) × ((take_reply u).place ≡ k))
      ↔ (Takeable found (taker u).0 × LowestFree found (taker u).0 k)
  take_0_exactly k = run_take_0 u k

  -- 1 and 3, each exactly where it is due
  pub take_1_exactly : ((take_reply u).number ≡ 1) ↔ (length_ok (length found) ≡ false)
  take_1_exactly = run_take_1 u

  pub take_3_exactly : ((take_reply u).number ≡ 3) ↔ ((length_ok (length found) ≡ true) × ((taker u).0 ≡ 0))
  take_3_exactly = run_take_3 u

  -- granted, the in-use word of that slot becomes 1, and no other word changes; a refusal names no place
  pub take_reach : (take_reply u).number ≡ 0 → OnlyTaken found u.exit.0.now (take_reply u).place
  take_reach h = run_only_taken u h

  pub refused_take_place : ((take_reply u).number ≡ 0 → ⊥) → (take_reply u).place ≡ 0
  refused_take_place h = run_take_place u h

module _ (u : GiveBackRun) where
  -- accepted, the slot keeps clinic, measure and indent, and all its other words are 0
  pub give_back_empties : (give_reply u).number ≡ 0 → given_after u ≡ emptied (given_before u)
  give_back_empties h = run_emptied u h

  -- it is refused as every edit of that slot is, up to 4, and accepted otherwise; it names no place
  pub give_back_as_edit : (e : EditRun) → Beside u e → (give_reply u).number ≡ up_to_4 (answer e).number
  give_back_as_edit e b = run_as_edit u e b

  pub give_back_place : (give_reply u).place ≡ 0
  give_back_place = run_give_place u

module _ (r : CallRun) (c : Clinic) (k : SlotNumber) (q : SlotCall) (e : call r ≡ call_on c k q) where
  -- 14, of every call on a slot: exactly where none of 17, 1, 2 and 3 is due and the in-use word is 0
  pub answer_14_exactly : (number_of (reply r) ≡ 14)
      ↔ ((fault_of q ≡ None) × Reached (before r) c.0 k.0 × (in_use_of (slot_at (before r) k.0) ≡ 0))
  answer_14_exactly = run_14 r c k q e

  -- an in-use word above 1 is 4
  pub in_use_above_1 : fault_of q ≡ None → Reached (before r) c.0 k.0 → 1 < in_use_of (slot_at (before r) k.0) →
      number_of (reply r) ≡ 4
  in_use_above_1 f h w = run_misused r c k q e f h w

-- Demand 3: sequences of calls, a call's reach, and two sheets ------------------------------------------------------

-- a sequence of runs, on a sheet of any words, that begins with an accepted set-up or with refused ones before it: one
-- claim about the whole of it
pub demand_3 : (ws : List ℕ) (rs : List CallRun) → Begun rs → Chained ws rs → AsBooked ws rs
demand_3 ws rs b c = as_booked ws rs b c

-- after it each slot holds what the rules give its records, so that `edit_words_stable` holds of every
-- accepted edit that follows
pub sequence_as_ruled : (ws : List ℕ) (rs : List CallRun) → Begun rs → Chained ws rs → (k : ℕ) → k < slot_count ws →
    AsRuled (slot_at (final ws rs) k)
sequence_as_ruled ws rs b c k h = slots_as_ruled ws rs b c k h

-- and each of these stands in the list of its class
pub sequence_listed : (ws : List ℕ) (rs : List CallRun) → Begun rs → Chained ws rs → (k : ℕ) → k < slot_count ws →
    All Listed (records_of (slot_at (final ws rs) k))
sequence_listed ws rs b c k h = slots_listed ws rs b c k h

-- a call on a slot changes no word outside it, and a read none at all
pub reach : (r : CallRun) (c : Clinic) (k : SlotNumber) (q : SlotCall) → call r ≡ call_on c k q →
    (i : ℕ) → Outside k.0 i → get_or (after r) i 0 ≡ get_or (before r) i 0
reach r c k q e i h = run_frame r c k q e i h

pub read_reach : (r : CallRun) (c : Clinic) (k : SlotNumber) → call r ≡ call_on c k reads → after r ≡ before r
read_reach r c k e = read_kept r c k e

-- two sheets: where they are alike for a call, two runs of it reply the same, and leave the caller's own slot the same
pub two_sheets : (r q : CallRun) → call r ≡ call q → AlikeFor (call r) (before r) (before q) →
    (reply r ≡ reply q) × LeftAlike (call r) (reply r) (before r) (after r) (after q)
two_sheets r q e a = run_alike r q e a

-- a clinic's call changes no word of a slot that is not its own
pub others_kept : (r : CallRun) (c : Clinic) → By c (call r) → (k : ℕ) → (c.0 ≡ clinic_of (slot_at (before r) k) → ⊥) →
    slot_at (after r) k ≡ slot_at (before r) k
others_kept r c b k h = run_foreign r c b k h

-- "No clinic can use up another's slots." Two calls of two clinics in either order, r then q, and p, which is q's call,
-- then t, which is r's: each is answered the same, and both leave the same sheet
module _ (c d : Clinic) (other : c.0 ≡ d.0 → ⊥) where
  pub either_order : (r q p t : CallRun) → By c (call r) → By d (call q) → EitherOrder r q p t →
      (reply t ≡ reply r) × (reply p ≡ reply q) × (after t ≡ after q)
  either_order r q p t b a o = (
    same_first_reply c d other r q p t b a o,
    same_second_reply c d other r q p t b a o,
    same_after c d other r q p t b a o,
  )

  -- so a take by one changes no answer of a take, an edit, an import, a read or a giving back by the other, and none of
  -- these changes what the take is answered
  pub none_used_up : (u v : TakeRun) (q p : CallRun) → taker u ≡ c → By d (call q) →
      EitherOrder (take_run u) q p (take_run v) → (reply q ≡ reply p) × (reply (take_run v) ≡ reply (take_run u))
  none_used_up u v q p e a o =
      let s = either_order (take_run u) q p (take_run v) (ap (λ (x : Clinic). x.0) e) a o in (sym s.1, s.0)

-- a refused call changes nothing in the book
pub book_refusals : (n : ℕ) (c : Call) (b : List BookSlot) → (number_of (book_step n c b).0 ≡ 0 → ⊥) →
    (book_step n c b).1 ≡ b
book_refusals n c b h = book_refused n c b h
