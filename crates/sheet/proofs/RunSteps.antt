-- What runs of the calls do is what the definitions say: their contracts. Assumes nothing.
use Rattle.std.proofs.Common.{◌≡◌, refl, sym, ap, ◌∙◌, ℕ, List, [], ◌∷◌, map}
use Rattle.rules.specs.Refusals.{Answer, EditAnswer, as_edit, Outcome, edit_slot, on_slot, edit}
use Rattle.rules.specs.Refusals.{read_number, read_part, read_words}
use Rattle.rules.specs.Pool.{give_back_slot, giving_back}
use Rattle.leaflet.specs.Reader.{fault_in, words_in}
use Rattle.sheet.specs.Import.{replace_slot, unless_fault, import}
use Rattle.sheet.specs.Book.{edits, imports, reads, gives_back, refusal, Reply, answer_reply, edit_reply}
use Rattle.sheet.specs.Book.{read_reply}
use Rattle.sheet.specs.OnSheet.{in_slot, step, run_sheet}
use Rattle.sheet.specs.declared.entry.Clinic.{Clinic}
use Rattle.sheet.specs.declared.entry.SlotNumber.{SlotNumber}
use Rattle.sheet.proofs.OnSlot.{on_reply}
use Rattle.sheet.proofs.TextFaults.{unless_told}
use Rattle.sheet.proofs.ReadLaws.{part_words}
use Rattle.sheet.proofs.ReadOnSlot.{read_on_slot}
use Rattle.sheet.proofs.Demand3.{Look, slice_look, part_look}
use Rattle.sheet.proofs.Demand3.{InTurn, the_one_first, the_other_first, ReadRun, ReadPartRun, CallRun}
use Rattle.sheet.proofs.Demand3.{set_up_run, edit_run, import_run, take_run, give_back_run, read_run}
use Rattle.sheet.proofs.Demand3.{read_part_run, call, before, after, between, reply, Chained, final}
use Rattle.sheet.proofs.Runs.{caller, slot, place, deleted, inserted, importer, import_slot, size, text, giver}
use Rattle.sheet.proofs.Runs.{given_slot}

-- Reads -------------------------------------------------------------------------------------------------------------

-- where both calls of a read leave the sheet as it is, they find the same sheet and leave it
in_turn : {a b : Look} {found left : List ℕ} → InTurn a b found left → a.left ≡ a.found → b.left ≡ b.found →
    (a.found ≡ found) × (b.found ≡ found) × (left ≡ found)
in_turn (the_one_first e) f g = (refl, sym e ∙ f, g ∙ sym e ∙ f)
in_turn (the_other_first e) f g = (sym e ∙ g, refl, f ∙ sym e ∙ g)

-- the number and the words of a read, on the sheet that both calls find
read_told : {found left words : List ℕ} {n : ℕ} (c : Clinic) (k : SlotNumber) → left ≡ found →
    n ≡ read_number found c.0 k.0 → words ≡ read_words found c.0 k.0 →
    ◌≡◌ {A = Outcome Reply} (read_reply n words, left) (on_slot (refusal reads) found c.0 k.0 (in_slot reads))
read_told {found} {left} {words} {n} c k e f g = rw (e, f, g) (read_on_slot found c.0 k.0)

slice_told : (u : ReadRun) → ◌≡◌ {A = Outcome Reply} (reply (read_run u), after (read_run u))
    (step (call (read_run u)) (before (read_run u)))
slice_told u =
    let a = slice_look u.part in
    let o = u.together in
    let t = in_turn o.in_turn u.part.learnt.1.1.1 u.number.learnt.1 in
    read_told a.caller a.slot t.2
    (rw (o.same_caller, o.same_slot, t.1) at u.number.learnt.0)
    (rw t.0 at u.part.learnt.0)

part_told : (u : ReadPartRun) → ◌≡◌ {A = Outcome Reply} (reply (read_part_run u), after (read_part_run u))
    (step (call (read_part_run u)) (before (read_part_run u)))
part_told u =
    let a = part_look u.part in
    let o = u.together in
    let t = in_turn o.in_turn u.part.learnt.1 u.number.learnt.1 in
    let part : ℕ × ℕ = read_part o.found a.caller.0 a.slot.0 in
    let p : ◌≡◌ {A = ℕ × ℕ} (u.part.result.start, u.part.result.end) part = rw t.0 at u.part.learnt.0 in
    read_told a.caller a.slot t.2
    (rw (o.same_caller, o.same_slot, t.1) at u.number.learnt.0)
    (ap (λ (q : ℕ × ℕ). between q.0 q.1 o.left) p
    ∙ ap (between part.0 part.1) t.2
    ∙ part_words o.found a.caller.0 a.slot.0)

-- Any run -----------------------------------------------------------------------------------------------------------

-- an edit's outcome as a reply
edit_step : (ws : List ℕ) (caller k place deleted : ℕ) (inserted : List ℕ) →
    let o = edit ws caller k place deleted inserted in
    let q = edits place deleted inserted in
    ◌≡◌ {A = Outcome Reply} (edit_reply o.0, o.1) (on_slot (refusal q) ws caller k (in_slot q))
unfolding edit
edit_step ws caller k place deleted inserted =
    on_reply edit_reply as_edit ws caller k (λ s. edit_slot s place deleted inserted)

-- and an import's
import_step : (ws : List ℕ) (caller k size : ℕ) (text : List ℕ) →
    let o = import ws caller k size text in
    let q = imports size text in
    ◌≡◌ {A = Outcome Reply} (edit_reply o.0, o.1)
    (unless_fault edit_reply (fault_in text) ws (on_slot (refusal q) ws caller k (in_slot q)))
unfolding import
import_step ws caller k size text =
    let replace : List ℕ → Outcome EditAnswer = λ s. replace_slot s (words_in size text) in
    unless_told edit_reply (fault_in text) ws (on_slot as_edit ws caller k replace)
    ∙ ap (unless_fault edit_reply (fault_in text) ws) (on_reply edit_reply as_edit ws caller k replace)

-- and a giving back's
give_back_step : (ws : List ℕ) (caller k : ℕ) →
    let o = giving_back ws caller k in
    ◌≡◌ {A = Outcome Reply} (answer_reply o.0, o.1) (on_slot (refusal gives_back) ws caller k (in_slot gives_back))
unfolding giving_back
give_back_step ws caller k = on_reply answer_reply (λ a. a) ws caller k give_back_slot

pub told : (r : CallRun) → ◌≡◌ {A = Outcome Reply} (reply r, after r) (step (call r) (before r))
told (set_up_run u) = ap (λ (o : Outcome Answer). (answer_reply o.0, o.1)) u.learnt
told (edit_run u) =
    ap (λ (o : Outcome EditAnswer). (edit_reply o.0, o.1)) u.learnt
    ∙ edit_step u.args.0.now (caller u).0 (slot u).0 (place u) (deleted u) (inserted u)
told (import_run u) =
    ap (λ (o : Outcome EditAnswer). (edit_reply o.0, o.1)) u.learnt
    ∙ import_step u.args.0.now (importer u).0 (import_slot u).0 (size u) (text u)
told (take_run u) = ap (λ (o : Outcome Answer). (answer_reply o.0, o.1)) u.learnt
told (give_back_run u) =
    ap (λ (o : Outcome Answer). (answer_reply o.0, o.1)) u.learnt
    ∙ give_back_step u.args.0.now (giver u).0 (given_slot u).0
told (read_run u) = slice_told u
told (read_part_run u) = part_told u

pub runs_are : (rs : List CallRun) (ws : List ℕ) → Chained ws rs →
    ◌≡◌ {A = List Reply × List ℕ} (map reply rs, final ws rs) (run_sheet (map call rs) ws)
runs_are [] ws h = refl
runs_are (r ∷ rs) ws h =
    let t : ◌≡◌ {A = Outcome Reply} (reply r, after r) (step (call r) ws) = rw h.0 at (told r) in
    ap (λ (o : List Reply × List ℕ). (reply r ∷ o.0, o.1)) (runs_are rs (after r) h.1)
    ∙ ap (λ (o : Outcome Reply). (o.0 ∷ (run_sheet (map call rs) o.1).0, (run_sheet (map call rs) o.1).1)) t
