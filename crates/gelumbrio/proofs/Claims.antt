-- What is proved of the exports, in reading order: what crate `sheet` proves of every run of its calls, said of every
-- run of `gelumbrio_*`. Each claim is proved by one citation. Assumes nothing.
use Rattle.std.proofs.Common.{◌≡◌, refl, ℕ, List, map, length, get_or}
-- words of the rules
use Rattle.rules.specs.Sheet.{clinic_of, slot_at}
-- calls, the book and runs
use Rattle.sheet.specs.Book.{SlotCall, reads, call_on, number_of}
use Rattle.sheet.specs.Meanings.{Outside, AlikeFor, LeftAlike, By}
use Rattle.sheet.specs.FreeSlots.{OnlyTaken}
use Rattle.sheet.specs.declared.entry.Clinic.{Clinic}
use Rattle.sheet.specs.declared.entry.SlotNumber.{SlotNumber}
use Rattle.sheet.proofs.Demand3.{SetUpRun, TakeRun, GiveBackRun, EditRun, ImportRun, PartRun, NumberRun, call, before}
use Rattle.sheet.proofs.Demand3.{after, reply, Chained, Begun, AsBooked}
use Rattle.sheet.proofs.Runs.{take_reply, EitherOrder}
use Rattle.gelumbrio.proofs.Exports.{SetUpExport, TakeExport, GiveBackExport, EditExport, ImportExport}
use Rattle.gelumbrio.proofs.Exports.{PartExport, NumberExport}
use Rattle.gelumbrio.proofs.Exports.{Export, handed}
-- the contracts
use Rattle.gelumbrio.proofs.gelumbrio_set_up.Statement as set_up_contract
use Rattle.gelumbrio.proofs.gelumbrio_take.Statement as take_contract
use Rattle.gelumbrio.proofs.gelumbrio_give_back.Statement as give_back_contract
use Rattle.gelumbrio.proofs.gelumbrio_edit.Statement as edit_contract
use Rattle.gelumbrio.proofs.gelumbrio_import.Statement as import_contract
use Rattle.gelumbrio.proofs.gelumbrio_read.Statement as read_contract
use Rattle.gelumbrio.proofs.gelumbrio_read_number.Statement as read_number_contract
use Rattle.gelumbrio.proofs.gelumbrio_ruby_place.Statement as ruby_place_contract
use Rattle.gelumbrio.proofs.gelumbrio_in_list.Statement as in_list_contract
use Rattle.gelumbrio.proofs.gelumbrio_class_of.Statement as class_of_contract
-- what proves the claims
use Rattle.sheet.proofs.Claims as sheet
use Rattle.gelumbrio.proofs.gelumbrio_set_up.Met as set_up_met
use Rattle.gelumbrio.proofs.gelumbrio_take.Met as take_met
use Rattle.gelumbrio.proofs.gelumbrio_give_back.Met as give_back_met
use Rattle.gelumbrio.proofs.gelumbrio_edit.Met as edit_met
use Rattle.gelumbrio.proofs.gelumbrio_import.Met as import_met
use Rattle.gelumbrio.proofs.gelumbrio_read.Met as read_met
use Rattle.gelumbrio.proofs.gelumbrio_read_number.Met as read_number_met
use Rattle.gelumbrio.proofs.gelumbrio_ruby_place.Met as ruby_place_met
use Rattle.gelumbrio.proofs.gelumbrio_in_list.Met as in_list_met
use Rattle.gelumbrio.proofs.gelumbrio_class_of.Met as class_of_met

-- Demand 1 ----------------------------------------------------------------------------------------------------------

-- the exports meet their contracts, each for any words, numbers and lengths
pub set_up_meets : {M : Type 1} → set_up_contract.statement M
set_up_meets = set_up_met.met

pub take_meets : {M : Type 1} → take_contract.statement M
take_meets = take_met.met

pub give_back_meets : {M : Type 1} → give_back_contract.statement M
give_back_meets = give_back_met.met

pub edit_meets : {M : Type 1} → edit_contract.statement M
edit_meets = edit_met.met

pub import_meets : {M : Type 1} → import_contract.statement M
import_meets = import_met.met

pub read_meets : {M : Type 1} → read_contract.statement M
read_meets = read_met.met

pub read_number_meets : {M : Type 1} → read_number_contract.statement M
read_number_meets = read_number_met.met

pub ruby_place_meets : {M : Type 1} → ruby_place_contract.statement M
ruby_place_meets = ruby_place_met.met

pub in_list_meets : {M : Type 1} → in_list_contract.statement M
in_list_meets = in_list_met.met

pub class_of_meets : {M : Type 1} → class_of_contract.statement M
class_of_meets = class_of_met.met

-- and these are the statements of the calls that they hand on: a run of an export is a run of the call, so that all
-- that crate `sheet` claims of runs holds of it
pub same_runs :
    (◌≡◌ {A = Type 0} SetUpExport SetUpRun) × (◌≡◌ {A = Type 0} TakeExport TakeRun)
    × (◌≡◌ {A = Type 0} GiveBackExport GiveBackRun) × (◌≡◌ {A = Type 0} EditExport EditRun)
    × (◌≡◌ {A = Type 0} ImportExport ImportRun) × (◌≡◌ {A = Type 0} PartExport PartRun)
    × (◌≡◌ {A = Type 0} NumberExport NumberRun)
same_runs = (refl, refl, refl, refl, refl, refl, refl)

-- every refusal leaves the whole sheet unchanged, and no call changes its length
pub refusals_change_nothing : (e : Export) → let r = handed e in (number_of (reply r) ≡ 0 → ⊥) → after r ≡ before r
refusals_change_nothing e = sheet.refusals_change_nothing (handed e)

pub length_kept : (e : Export) → let r = handed e in length (after r) ≡ length (before r)
length_kept e = sheet.length_kept (handed e)

-- Demand 3 ----------------------------------------------------------------------------------------------------------

-- a sequence of exported calls, on a sheet of any words, from the first accepted set-up on
pub demand_3 : (ws : List ℕ) (es : List Export) → let rs = map handed es in Begun rs → Chained ws rs → AsBooked ws rs
demand_3 ws es = sheet.demand_3 ws (map handed es)

-- a call on a slot changes no word outside it, and a read none at all
pub reach : (e : Export) (c : Clinic) (k : SlotNumber) (q : SlotCall) →
    let r = handed e in
    call r ≡ call_on c k q → (i : ℕ) → Outside k.0 i → get_or (after r) i 0 ≡ get_or (before r) i 0
reach e = sheet.reach (handed e)

pub read_reach : (e : Export) (c : Clinic) (k : SlotNumber) →
    let r = handed e in
    call r ≡ call_on c k reads → after r ≡ before r
read_reach e = sheet.read_reach (handed e)

-- two sheets: where they are alike for a call, two runs of it reply the same, and leave the caller's own slot the same
pub two_sheets : (e f : Export) →
    let r = handed e in
    let q = handed f in
    call r ≡ call q → AlikeFor (call r) (before r) (before q) →
    (reply r ≡ reply q) × LeftAlike (call r) (reply r) (before r) (after r) (after q)
two_sheets e f = sheet.two_sheets (handed e) (handed f)

-- a take changes the granted slot's in-use word alone
pub take_reach : (u : TakeExport) → (take_reply u).number ≡ 0 →
    OnlyTaken u.args.0.now u.exit.0.now (take_reply u).place
take_reach u = sheet.take_reach u

-- a clinic's call changes no word of a slot that is not its own
pub others_kept : (e : Export) (c : Clinic) →
    let r = handed e in
    By c (call r) → (k : ℕ) → (c.0 ≡ clinic_of (slot_at (before r) k) → ⊥) → slot_at (after r) k ≡ slot_at (before r) k
others_kept e = sheet.others_kept (handed e)

-- "No clinic can use up another's slots": calls of two clinics in either order are answered the same, and leave the
-- same sheet
pub either_order : (c d : Clinic) → (c.0 ≡ d.0 → ⊥) → (e f g h : Export) →
    let r = handed e in
    let q = handed f in
    let p = handed g in
    let t = handed h in
    By c (call r) → By d (call q) → EitherOrder r q p t →
    (reply t ≡ reply r) × (reply p ≡ reply q) × (after t ≡ after q)
either_order c d other e f g h = sheet.either_order c d other (handed e) (handed f) (handed g) (handed h)
