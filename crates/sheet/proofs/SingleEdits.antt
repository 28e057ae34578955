-- The single edit of a sound slot's records: what it leaves, and that every run of it on a fresh slot is accepted and
-- leaves that. Assumes nothing.
use Rattle.std.proofs.Common.{◌≡◌, sym, ap, ◌∙◌, ℕ, ◌<◌, arith, true, false, not, ◌||◌, List, [], eqb, length, eq-eqb}
use Rattle.std.proofs.Common.{ne_eqb}
use Rattle.rules.specs.Records.{record_words}
use Rattle.rules.specs.Sheet.{clinic_of, in_use_of, length_ok, slot_count, slot_at}
use Rattle.rules.specs.Refusals.{Answer, EditAnswer, reporting, Outcome, judged, entry_answer}
use Rattle.sheet.specs.Book.{SlotCall, edits, call_on, Reply, edit_reply, number_of, refusal, BookSlot}
use Rattle.sheet.specs.Book.{with_records, book_redone, fresh_slot}
use Rattle.sheet.specs.OnSheet.{in_slot, step, encode_slot}
use Rattle.sheet.specs.declared.entry.Clinic.{Clinic}
use Rattle.sheet.specs.declared.entry.SlotNumber.{SlotNumber}
use Rattle.sheet.proofs.Tables.{same_number}
use Rattle.sheet.proofs.EntryLaws.{entry_0}
use Rattle.sheet.proofs.OnSlot.{on_entering, slot_is_inside}
use Rattle.sheet.proofs.BookWords.{Sound}
use Rattle.sheet.proofs.BookSlots.{single_edit, single_is}
use Rattle.sheet.proofs.SlotCalls.{keeps}
use Rattle.sheet.proofs.Demand3.{before, after, reply, BySingleEdit}
use Rattle.sheet.proofs.RunSteps.{told}

module _ (s : BookSlot) (h : Sound s) where
  abbrev all : SlotCall
  all = edits 0 0 (record_words s.records)

  abbrev answer : Answer
  answer = judged s.setting.measure s.setting.indent s.records

  abbrev redone : ℕ
  redone = book_redone 0 0 (record_words s.records) (with_records s [])

  in_fresh : in_slot all (fresh_slot s) ≡ (edit_reply (reporting answer redone), encode_slot s)
  in_fresh = ap (λ (o : Outcome EditAnswer). (edit_reply o.0, o.1)) (single_edit s h)

  -- the edit call, on a sheet with a fresh slot j
  module _ (vs : List ℕ) (c : Clinic) (j : SlotNumber) (ok : length_ok (length vs) ≡ true)
      (within : j.0 < slot_count vs) where
    passed_by : slot_at vs j.0 ≡ fresh_slot s → c.0 ≡ s.setting.clinic → (c.0 ≡ 0 → ⊥) → s.setting.in_use ≡ 1 →
        (entry_answer vs c.0 j.0).number ≡ 0
    passed_by e own known taken =
        let entry : eqb c.0 0 || not (eqb c.0 (clinic_of (slot_at vs j.0))) ≡ false
        = rw (e, ne_eqb _ _ known, eq-eqb c.0 s.setting.clinic own) in
        let used : in_use_of (slot_at vs j.0) ≡ 0 → ⊥ = rw e (λ z. omega (arith, z, taken)) in
        same_number (entry_0 vs c.0 j.0 ok within entry used)

    call_edits : slot_at vs j.0 ≡ fresh_slot s → (entry_answer vs c.0 j.0).number ≡ 0 →
        let o = step (call_on c j all) vs in
        (number_of o.0 ≡ 0) × (slot_at o.1 j.0 ≡ encode_slot s)
    call_edits e z =
        let f = ap (in_slot all) e ∙ in_fresh in (
          ap (λ (o : Outcome Reply). number_of o.0) (on_entering (refusal all) vs c.0 j.0 (in_slot all) z)
              ∙ ap (λ (o : Outcome Reply). number_of o.0) f
              ∙ h.right,
          slot_is_inside (refusal all) vs c.0 j.0 (in_slot all) (keeps all).whole z
              ∙ ap (λ (o : Outcome Reply). o.1) f,
        )

  pub by_single_edit : BySingleEdit s (encode_slot s)
  by_single_edit =
      record {
        slot = sym (single_is s h);
        in_use_or_not = h.use_limits;
        unassigned = h.unassigned;
        unused = h.unused;
        by_run = λ r c j e own known taken ok within f.
            let t : ◌≡◌ {A = Outcome Reply} (reply r, after r) (step (call_on c j all) (before r))
            = rw e at (told r) in
            let y = call_edits (before r) c j ok within f (passed_by (before r) c j ok within f own known taken) in (
              ap (λ (o : Outcome Reply). number_of o.0) t ∙ y.0,
              ap (λ (o : Outcome Reply). slot_at o.1 j.0) t ∙ y.1,
            );
      }
