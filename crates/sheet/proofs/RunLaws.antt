-- Laws of each run of a call, from those of the definitions: what it leaves alone, what it goes by, and what reads
-- hand back. Assumes nothing.
use Rattle.std.proofs.Common.{◌≡◌, refl, sym, ap, subst, ◌∙◌, ℕ, ◌*◌, ◌<◌, List, [], ◌↔◌, None, length, get_or, take}
use Rattle.std.proofs.Common.{drop}
use Rattle.rules.specs.Layout.{line_length, lines_at}
use Rattle.rules.specs.Sheet.{clinic_of, line_count_of, in_use_of, slot_at}
use Rattle.rules.specs.Refusals.{Outcome, read_number, read_words}
use Rattle.sheet.specs.Book.{SlotCall, reads, call_on, Reply, edit_reply, read_reply, number_of, refusal, fault_of}
use Rattle.sheet.specs.OnSheet.{in_slot, step}
use Rattle.sheet.specs.Meanings.{Outside, AlikeFor, LeftAlike, By}
use Rattle.sheet.specs.FreeSlots.{Reached}
use Rattle.sheet.specs.declared.entry.Clinic.{Clinic}
use Rattle.sheet.specs.declared.entry.SlotNumber.{SlotNumber}
use Rattle.sheet.proofs.OnSlot.{on_frame}
use Rattle.sheet.proofs.TextFaults.{unless}
use Rattle.sheet.proofs.ReadLaws.{read_line_words, read_none}
use Rattle.sheet.proofs.ReadOnSlot.{read_on_slot}
use Rattle.sheet.proofs.SlotCalls.{keeps}
use Rattle.sheet.proofs.InUseAnswers.{step_14, step_misused}
use Rattle.sheet.proofs.SlotAfterCall.{slot_kept}
use Rattle.sheet.proofs.AnyCall.{refused_unchanged, step_length, same_reply, left_alike}
use Rattle.sheet.proofs.Demand3.{CallRun, call, before, after, reply}
use Rattle.sheet.proofs.RunSteps.{told}

-- Any run -----------------------------------------------------------------------------------------------------------

-- what holds of a call by the definitions holds of its run
by_step : (P : Outcome Reply → Type 0) (r : CallRun) → P (step (call r) (before r)) → P (reply r, after r)
by_step P r h = subst P (sym (told r)) h

pub run_unchanged : (r : CallRun) → (number_of (reply r) ≡ 0 → ⊥) → after r ≡ before r
run_unchanged r =
    by_step (λ o. (number_of o.0 ≡ 0 → ⊥) → o.1 ≡ before r) r (refused_unchanged (call r) (before r))

pub run_length : (r : CallRun) → length (after r) ≡ length (before r)
run_length r = by_step (λ o. length o.1 ≡ length (before r)) r (step_length (call r) (before r))

pub run_alike : (r q : CallRun) → call r ≡ call q → AlikeFor (call r) (before r) (before q) →
    (reply r ≡ reply q) × LeftAlike (call r) (reply r) (before r) (after r) (after q)
run_alike r q e a =
    let other : ◌≡◌ {A = Outcome Reply} (reply q, after q) (step (call r) (before q)) = rw (← e) at (told q) in
    by_step (λ o. (o.0 ≡ reply q) × LeftAlike (call r) o.0 (before r) o.1 (after q)) r
    (subst (λ (p : Outcome Reply). let o = step (call r) (before r) in
    (o.0 ≡ p.0) × LeftAlike (call r) o.0 (before r) o.1 p.1) (sym other)
    (same_reply (call r) (before r) (before q) a, left_alike (call r) (before r) (before q) a))

-- another clinic's slot
pub run_foreign : (r : CallRun) (c : Clinic) → By c (call r) → (k : ℕ) → (c.0 ≡ clinic_of (slot_at (before r) k) → ⊥) →
    slot_at (after r) k ≡ slot_at (before r) k
run_foreign r c b k f =
    by_step (λ o. slot_at o.1 k ≡ slot_at (before r) k) r (slot_kept c (call r) b (before r) k f)

-- a run of a call on a slot
module _ (r : CallRun) (c : Clinic) (k : SlotNumber) where
  pub run_frame : (q : SlotCall) → call r ≡ call_on c k q → (i : ℕ) → Outside k.0 i →
      get_or (after r) i 0 ≡ get_or (before r) i 0
  run_frame q e i h =
      by_step (λ o. get_or o.1 i 0 ≡ get_or (before r) i 0) r
      (rw e
      (unless edit_reply (λ o. get_or o.1 i 0 ≡ get_or (before r) i 0) (fault_of q) (before r) _ (λ p. refl)
      (on_frame (refusal q) (before r) c.0 k.0 (in_slot q) (keeps q).whole i h)))

  -- answer 14, and an in-use word above 1
  module _ (q : SlotCall) (e : call r ≡ call_on c k q) where
    pub run_14 : (number_of (reply r) ≡ 14)
        ↔ ((fault_of q ≡ None) × Reached (before r) c.0 k.0 × (in_use_of (slot_at (before r) k.0) ≡ 0))
    run_14 =
        by_step
        (λ o. (number_of o.0 ≡ 14)
        ↔ ((fault_of q ≡ None) × Reached (before r) c.0 k.0 × (in_use_of (slot_at (before r) k.0) ≡ 0)))
        r (rw e (step_14 (before r) c k q))

    pub run_misused : fault_of q ≡ None → Reached (before r) c.0 k.0 → 1 < in_use_of (slot_at (before r) k.0) →
        number_of (reply r) ≡ 4
    run_misused f h u =
        by_step (λ o. number_of o.0 ≡ 4) r (rw e (step_misused (before r) c k q f h u))

  -- of a read
  module _ (e : call r ≡ call_on c k reads) where
    abbrev number : ℕ
    number = read_number (before r) c.0 k.0

    abbrev words : List ℕ
    words = read_words (before r) c.0 k.0

    read_told : ◌≡◌ {A = Outcome Reply} (reply r, after r) (read_reply number words, before r)
    read_told = rw e at (told r) ∙ sym (read_on_slot (before r) c.0 k.0)

    pub read_replied : reply r ≡ read_reply number words
    read_replied = ap (λ (o : Outcome Reply). o.0) read_told

    pub read_kept : after r ≡ before r
    read_kept = ap (λ (o : Outcome Reply). o.1) read_told

    abbrev s : List ℕ
    s = slot_at (before r) k.0

    pub read_lines : number_of (reply r) ≡ 0 →
        reply r ≡ read_reply 0 (take (line_length * line_count_of s) (drop lines_at s))
    read_lines z =
        let n : number ≡ 0 = ap number_of (sym read_replied) ∙ z in
        read_replied ∙ rw (n, read_line_words (before r) c.0 k.0 n)

    pub read_nothing : (number_of (reply r) ≡ 0 → ⊥) → reply r ≡ read_reply (number_of (reply r)) []
    read_nothing z =
        let n : number_of (reply r) ≡ number = ap number_of read_replied in
        read_replied ∙ rw (n, read_none (before r) c.0 k.0 (λ y. z (n ∙ y)))
