-- The book stays well-formed: after an accepted set-up, and after each call from then on; and answer 4 does not come
-- up in it. Assumes nothing.
use Rattle.std.proofs.Common.{◌≡◌, refl, ap, ◌∙◌, ℕ, ◌/◌, arith, List, inl, inr, eqb, length, set, length-set}
use Rattle.std.proofs.Common.{eqb-true, ne_eqb}
use Rattle.std.proofs.Math.Seq.{set-get_or}
use Rattle.rules.specs.Layout.{slot_length}
use Rattle.rules.specs.Refusals.{says, set_up_answer}
use Rattle.std.proofs.lemmas.Bool.{cases_Bool}
use Rattle.rules.specs.Pool.{take_answer}
use Rattle.sheet.specs.Book.{SlotCall, Call, call_set_up, call_take, call_on, Reply, edit_reply, number_of}
use Rattle.sheet.specs.Book.{refusal, fault_of, BookSlot, used, book_at, empty_slots, book_set_up, book_own, book_take}
use Rattle.sheet.specs.Book.{book_entry_rows, book_entry_answer, on_book_slot, in_book, book_step}
use Rattle.sheet.proofs.Tables.{passed}
use Rattle.sheet.proofs.SetUpLaws.{accepted, accepted_limits}
use Rattle.sheet.proofs.BookWords.{Sound, WellFormed, all_at, all_set, length_empty, sound_empty}
use Rattle.sheet.proofs.TextFaults.{unless}
use Rattle.sheet.proofs.SlotCalls.{keeps}
use Rattle.sheet.proofs.BookSteps.{granted_within, here, assigned, taken}

-- an accepted set-up starts a well-formed book, whatever there was before
pub new_book : (n : ℕ) (clinics measures indents : List ℕ) → (set_up_answer n clinics measures indents).number ≡ 0 →
    WellFormed n (empty_slots 0 clinics measures indents (n / slot_length))
new_book n clinics measures indents z =
    let f = accepted clinics measures indents n z in
    let w : WellFormed n (empty_slots 0 clinics measures indents (length clinics))
    = record {
      sound = sound_empty clinics measures indents 0 (length clinics) (accepted_limits clinics measures indents n z);
      exact = rw length_empty f.exact;
      some = rw length_empty f.some;
      few = rw length_empty f.few;
    } in
    rw (← f.slots) w

-- Any call ----------------------------------------------------------------------------------------------------------

module _ (n : ℕ) (b : List BookSlot) (g : WellFormed n b) where
  with_sound : (k : ℕ) (t : BookSlot) → Sound t → WellFormed n (set b k t)
  with_sound k t h =
      record {
        sound = all_set g.sound k t h;
        exact = rw length-set g.exact;
        some = rw length-set g.some;
        few = rw length-set g.few;
      }

  on_stays : (q : SlotCall) (caller k : ℕ) → WellFormed n (on_book_slot (refusal q) n caller k (in_book q) b).1
  unfolding on_book_slot
  on_stays q caller k =
      elim (cases_Bool (eqb (book_entry_answer n caller k b).number 0)) [
        | inl e ↦
            let z = eqb-true _ _ e in
            rw e (with_sound k _ ((keeps q).sound (book_at b k) (here n b g caller k z) (assigned n b g caller k z)
            (taken n b g caller k z)))
        | inr e ↦ rw e g
      ]

  used_sound : (s : BookSlot) → Sound s → Sound (used s 1)
  used_sound s h =
      record {
        limits = h.limits;
        use_limits = omega arith;
        unassigned = h.unassigned;
        unused = λ z. absurd (omega (arith, z));
        few = h.few;
        right = h.right;
      }

  take_stays : (caller : ℕ) → WellFormed n (book_take n caller b).1
  unfolding book_take
  take_stays caller =
      let a = take_answer n caller (book_own n caller b) in
      elim (cases_Bool (eqb a.number 0)) [
        | inl e ↦
            rw e
            (with_sound a.place _
            (used_sound (book_at b a.place)
            (all_at g.sound a.place _ (granted_within n b g caller (eqb-true _ _ e)))))
        | inr e ↦ rw e g
      ]

  pub stays : (c : Call) → WellFormed n (book_step n c b).1
  unfolding book_set_up
  stays (call_set_up clinics measures indents) =
      elim (cases_Bool (eqb (set_up_answer n clinics measures indents).number 0)) [
        | inl e ↦ rw e (new_book n clinics measures indents (eqb-true _ _ e))
        | inr e ↦ rw e g
      ]
  stays (call_take caller) = take_stays caller.0
  stays (call_on caller k q) =
      unless edit_reply (λ o. WellFormed n o.1) (fault_of q) b _ (λ p. g) (on_stays q caller.0 k.0)

-- Any book ----------------------------------------------------------------------------------------------------------

module _ (q : SlotCall) (n caller k : ℕ) (b : List BookSlot) where
  abbrev out : Reply × List BookSlot
  out = on_book_slot (refusal q) n caller k (in_book q) b

  pub on_book_not_4 : number_of out.0 ≡ 4 → ⊥
  unfolding on_book_slot book_entry_rows
  on_book_not_4 =
      elim (cases_Bool (eqb (book_entry_answer n caller k b).number 0)) [
        | inl e ↦ rw e ((keeps q).never_4 (book_at b k))
        | inr e ↦ rw (e, (keeps q).number (book_entry_answer n caller k b)) (λ f. not_4 f)
      ]
    where
      not_4 : (book_entry_answer n caller k b).number ≡ 4 → ⊥
      not_4 f = let z : ◌≡◌ {A = ℕ} 0 4 = (passed 4 (book_entry_rows n caller k b) (says 0 0) refl f).1 in omega arith

  -- "A refused call changes nothing in the book."
  on_book_unchanged : (number_of out.0 ≡ 0 → ⊥) → out.1 ≡ b
  unfolding on_book_slot
  on_book_unchanged =
      elim (cases_Bool (eqb (book_entry_answer n caller k b).number 0)) [
        | inl e ↦ rw e (λ z. ap (set b k) ((keeps q).book_unchanged (book_at b k) z) ∙ set-get_or b k _)
        | inr e ↦ rw e (λ z. refl)
      ]

pub book_refused : (n : ℕ) (c : Call) (b : List BookSlot) → (number_of (book_step n c b).0 ≡ 0 → ⊥) →
    (book_step n c b).1 ≡ b
unfolding book_set_up book_take
book_refused n (call_set_up clinics measures indents) b = λ z. rw (ne_eqb _ _ z)
book_refused n (call_take caller) b = λ z. rw (ne_eqb _ _ z)
book_refused n (call_on caller k q) b =
    unless edit_reply (λ o. (number_of o.0 ≡ 0 → ⊥) → o.1 ≡ b) (fault_of q) b _ (λ p z. refl)
    (on_book_unchanged q n caller.0 k.0 b)
