-- The book's slots follow their histories. Assumes nothing.
use Rattle.std.proofs.Common.{◌≡◌, refl, sym, ap, ◌∙◌, ℕ, zero, suc, ◌/◌, ◌<◌, arith, cond, ◌&&◌, List, [], ◌∷◌, ◌++◌}
use Rattle.std.proofs.Common.{inl, inr, eqb, length, get_or-set_same, get_or-set_other, eqb-true}
use Rattle.std.proofs.Math.Bool.{and-true, and-false}
use borrow.Author.Tests.{eqb-false}
use Rattle.rules.specs.Layout.{slot_length}
use Rattle.rules.specs.Records.{Rec}
use Rattle.rules.specs.Refusals.{set_up_answer}
use Rattle.rules.specs.Pool.{take_answer}
use Rattle.std.proofs.lemmas.Bool.{cases_Bool}
use Rattle.sheet.specs.Book.{SlotCall, edits, imports, reads, gives_back, Call, call_set_up, call_take, call_on}
use Rattle.sheet.specs.Book.{edit_reply, refusal, fault_of, BookSlot, used, book_at, empty_slots, book_set_up, book_own}
use Rattle.sheet.specs.Book.{book_take, book_entry_answer, on_book_slot, book_edited, book_edit, in_book, book_step}
use Rattle.sheet.specs.Book.{run_book, History, anew, further, next_by, accepted, next, history_from, made, replayed}
use Rattle.sheet.specs.Book.{Follows}
use Rattle.sheet.proofs.TextFaults.{unless}
use Rattle.sheet.proofs.BookSlots.{book_answer}
use Rattle.sheet.proofs.BookWords.{WellFormed, all_at}
use Rattle.sheet.proofs.SlotCalls.{keeps}
use Rattle.sheet.proofs.BookSteps.{granted_free}
use Rattle.sheet.proofs.BookStays.{stays}

-- one change more
replayed_further : (rs : List Rec) (qs : List SlotCall) (q : SlotCall) →
    replayed rs (qs ++ q ∷ []) ≡ made q (replayed rs qs)
replayed_further rs [] q = refl
replayed_further rs (p ∷ qs) q = replayed_further (made p rs) qs q

-- What a call on the slot does --------------------------------------------------------------------------------------

edit_follows : (place deleted : ℕ) (inserted : List ℕ) (q : SlotCall) (s : BookSlot) (h : History) → Follows s h →
    (book_edited place deleted inserted s).records ≡ made q s.records →
    let o = book_edit place deleted inserted s in
    Follows o.1 (cond (eqb o.0.number 0) (further q h) h)
unfolding book_edit book_edited
edit_follows place deleted inserted q s h f same =
    elim (cases_Bool (eqb (book_answer place deleted inserted s).number 0)) [
      | inl e ↦
          rw e
          (record {
            records = same ∙ ap (made q) f.records ∙ sym (replayed_further [] h.changes q);
            in_use = f.in_use;
          })
      | inr e ↦ rw e f
    ]

call_follows : (q : SlotCall) (s : BookSlot) (h : History) → Follows s h →
    let o = in_book q s in
    Follows o.1 (cond (accepted o.0) (next_by q h) h)
unfolding book_edited
call_follows (edits place deleted inserted) s h f =
    edit_follows place deleted inserted (edits place deleted inserted) s h f refl
call_follows (imports size text) s h f = edit_follows 0 (length s.records) _ (imports size text) s h f refl
call_follows reads s h f = f
call_follows gives_back s h f = record { records = refl; in_use = refl }

-- What any call does ------------------------------------------------------------------------------------------------

-- after an accepted set-up, also past the end
empty_follows : (clinics measures indents : List ℕ) (j n k : ℕ) →
    Follows (book_at (empty_slots j clinics measures indents n) k) (anew 0)
unfolding empty_slots
empty_follows clinics measures indents j zero k = record { records = refl; in_use = refl }
empty_follows clinics measures indents j (suc n) zero = record { records = refl; in_use = refl }
empty_follows clinics measures indents j (suc n) (suc k) = empty_follows clinics measures indents (suc j) n k

pub set_up_follows : (n : ℕ) (clinics measures indents : List ℕ) (b : List BookSlot) (k : ℕ) (h : History) →
    Follows (book_at b k) h →
    let o = book_step n (call_set_up clinics measures indents) b in
    Follows (book_at o.1 k) (next k (call_set_up clinics measures indents) o.0 h)
unfolding book_set_up
set_up_follows n clinics measures indents b k h f =
    elim (cases_Bool (eqb (set_up_answer n clinics measures indents).number 0)) [
      | inl e ↦ rw e (empty_follows clinics measures indents 0 (n / slot_length) k)
      | inr e ↦ rw e f
    ]

module _ (n : ℕ) (b : List BookSlot) (g : WellFormed n b) (k : ℕ) (within : k < length b) (h : History)
    (f : Follows (book_at b k) h) where
  -- a slot that is granted had no records
  take_follows : (caller : ℕ) →
      let o = book_take n caller b in
      Follows (book_at o.1 k) (cond (eqb o.0.number 0 && eqb o.0.place k) (anew 1) h)
  unfolding book_take
  take_follows caller =
      let a = take_answer n caller (book_own n caller b) in
      elim (cases_Bool (eqb a.number 0)) [
        | inl e ↦
            elim (cases_Bool (eqb a.place k)) [
              | inl t ↦
                  let here = eqb-true a.place k t in
                  let free = granted_free n b g caller (eqb-true _ _ e) in
                  rw (e, t, here, get_or-set_same b k (used (book_at b k) 1) _ within)
                  (record { records = (all_at g.sound k _ within).unused (rw here at free); in_use = refl })
              | inr t ↦ rw (e, t, get_or-set_other b a.place k _ _ (λ z. eqb-false a.place k t (sym z))) f
            ]
        | inr e ↦ rw e f
      ]

  on_follows : (q : SlotCall) (caller j : ℕ) →
      let o = on_book_slot (refusal q) n caller j (in_book q) b in
      Follows (book_at o.1 k) (cond (accepted o.0 && eqb j k) (next_by q h) h)
  unfolding on_book_slot
  on_follows q caller j =
      let a = book_entry_answer n caller j b in
      elim (cases_Bool (eqb a.number 0)) [
        | inl e ↦
            elim (cases_Bool (eqb j k)) [
              | inl t ↦
                  let here = eqb-true j k t in
                  rw (e, t, here, get_or-set_same b k (in_book q (book_at b k)).1 _ within, and-true)
                  (call_follows q (book_at b k) h f)
              | inr t ↦ rw (e, t, get_or-set_other b j k _ _ (λ z. eqb-false j k t (sym z)), and-false) f
            ]
        | inr e ↦ rw (e, (keeps q).number a, e) f
      ]

  pub step_follows : (c : Call) →
      let o = book_step n c b in
      Follows (book_at o.1 k) (next k c o.0 h)
  step_follows (call_set_up clinics measures indents) = set_up_follows n clinics measures indents b k h f
  step_follows (call_take caller) = take_follows caller.0
  step_follows (call_on caller j q) =
      unless edit_reply (λ o. Follows (book_at o.1 k) (next k (call_on caller j q) o.0 h)) (fault_of q) b _ (λ p. f)
      (on_follows q caller.0 j.0)

-- Sequences ---------------------------------------------------------------------------------------------------------

pub sequence_follows : (n : ℕ) (calls : List Call) (b : List BookSlot) → WellFormed n b → (k : ℕ) → k < length b →
    (h : History) → Follows (book_at b k) h →
    let o = run_book n calls b in
    Follows (book_at o.1 k) (history_from k h calls o.0)
sequence_follows n [] b g k within h f = f
sequence_follows n (c ∷ calls) b g k within h f =
    let o = book_step n c b in
    let w = stays n b g c in
    sequence_follows n calls o.1 w k (omega (arith, g.exact, w.exact)) (next k c o.0 h)
    (step_follows n b g k within h f c)
