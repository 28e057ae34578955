-- Runs of the calls, by name: words of the claims beside those of demand 3, which proofs/Demand3.antt has. Definitions
-- alone. Assumes nothing.
use Rattle.std.proofs.Common.{◌≡◌, ℕ, List}
use Rattle.rules.specs.Records.{record_words}
use Rattle.rules.specs.Sheet.{count_of, slot_at}
use Rattle.rules.specs.Refusals.{Answer, says, EditAnswer, edit_says}
use Rattle.leaflet.specs.Contents.{Piece, reading}
use Rattle.leaflet.specs.Imported.{imported_records}
use Rattle.sheet.specs.declared.entry.Clinic.{Clinic}
use Rattle.sheet.specs.declared.entry.SlotNumber.{SlotNumber}
use Rattle.sheet.proofs.Demand3.{SetUpRun, TakeRun, GiveBackRun, EditRun, ImportRun}
use Rattle.sheet.proofs.Demand3.{CallRun, call, before, after}

-- A set-up's run: its three lists
module _ (u : SetUpRun) where
  abbrev set_up_told : record { clinics : List ℕ; measures : List ℕ; indents : List ℕ }
  set_up_told =
      let (sheet, (clinics, (measures, (indents, _)))) = u.args in
      record { clinics = clinics.now; measures = measures.now; indents = indents.now }

  abbrev pub clinics : List ℕ
  clinics = set_up_told.clinics

  abbrev pub measures : List ℕ
  measures = set_up_told.measures

  abbrev pub indents : List ℕ
  indents = set_up_told.indents

-- An edit's run: what it was told, found, left and answered
module _ (u : EditRun) where
  abbrev edit_told :
      record { caller : Clinic; slot : SlotNumber; place : ℕ; deleted : ℕ; inserted : List ℕ }
  edit_told =
      let (sheet, (caller, (slot, (place, (deleted, (inserted, _)))))) = u.args in
      record { caller = caller; slot = slot; place = place; deleted = deleted; inserted = inserted.now }

  abbrev pub caller : Clinic
  caller = edit_told.caller

  abbrev pub slot : SlotNumber
  slot = edit_told.slot

  abbrev pub place : ℕ
  place = edit_told.place

  abbrev pub deleted : ℕ
  deleted = edit_told.deleted

  abbrev pub inserted : List ℕ
  inserted = edit_told.inserted

  abbrev pub answer : EditAnswer
  answer = edit_says u.result.number u.result.place u.result.redone

  -- the named slot's words, before and after
  abbrev pub slot_before : List ℕ
  slot_before = slot_at u.args.0.now slot.0

  abbrev pub slot_after : List ℕ
  slot_after = slot_at u.exit.0.now slot.0

-- The same of an import's run. Its answer is an edit's, or 17, its place the offset in bytes, and no lines redone
module _ (u : ImportRun) where
  abbrev import_told : record { importer : Clinic; slot : SlotNumber; size : ℕ; text : List ℕ }
  import_told =
      let (sheet, (importer, (slot, (size, (text, _))))) = u.args in
      record { importer = importer; slot = slot; size = size; text = text.now }

  abbrev pub importer : Clinic
  importer = import_told.importer

  abbrev pub import_slot : SlotNumber
  import_slot = import_told.slot

  abbrev pub size : ℕ
  size = import_told.size

  abbrev pub text : List ℕ
  text = import_told.text

  abbrev pub import_answer : EditAnswer
  import_answer = edit_says u.result.number u.result.place u.result.redone

  abbrev pub import_before : List ℕ
  import_before = slot_at u.args.0.now import_slot.0

  abbrev pub import_after : List ℕ
  import_after = slot_at u.exit.0.now import_slot.0

-- an edit that is an import's of a content: on the same sheet, by the same caller and on the same slot, at place 0, it
-- deletes as many records as the slot has and inserts the words of the content's
pub record EditOf (u : ImportRun) (ps : List Piece) (e : EditRun) : Type 0 where
  pub same_sheet : e.args.0.now ≡ u.args.0.now
  pub same_caller : caller e ≡ importer u
  pub same_slot : slot e ≡ import_slot u
  pub start : place e ≡ 0
  pub all : deleted e ≡ count_of (import_before u)
  pub words : inserted e ≡ record_words (imported_records (size u) (reading ps))

-- A take's run: who took, and what was answered
module _ (u : TakeRun) where
  abbrev pub taker : Clinic
  taker = let (sheet, (taker, _)) = u.args in taker

  abbrev pub take_reply : Answer
  take_reply = says u.result.number u.result.place

-- A giving back's run, likewise
module _ (u : GiveBackRun) where
  abbrev pub giver : Clinic
  giver = let (sheet, (giver, _)) = u.args in giver

  abbrev pub given_slot : SlotNumber
  given_slot = let (sheet, (giver, (slot, _))) = u.args in slot

  abbrev pub give_reply : Answer
  give_reply = says u.result.number u.result.place

  abbrev pub given_before : List ℕ
  given_before = slot_at u.args.0.now given_slot.0

  abbrev pub given_after : List ℕ
  given_after = slot_at u.exit.0.now given_slot.0

-- an edit beside a giving back: on the same sheet, by the same caller and on the same slot
pub record Beside (u : GiveBackRun) (e : EditRun) : Type 0 where
  pub same_sheet : e.args.0.now ≡ u.args.0.now
  pub same_caller : caller e ≡ giver u
  pub same_slot : slot e ≡ given_slot u

-- two calls in either order on one sheet: r, then q; and p, a run of q's call, then t, a run of r's
pub record EitherOrder (r q p t : CallRun) : Type 0 where
  pub same_sheet : before p ≡ before r
  pub q_after_r : before q ≡ after r
  pub t_after_p : before t ≡ after p
  pub p_as_q : call p ≡ call q
  pub t_as_r : call t ≡ call r
