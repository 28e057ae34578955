-- Each call on a sheet that holds a well-formed book does what the book does. Assumes nothing.
use Rattle.std.proofs.Common.{◌≡◌, sym, ap, ◌∙◌, ℕ, ◌/◌, ◌<◌, arith, List, inl, inr, eqb, length, set, eqb-true}
use Rattle.rules.specs.Layout.{slot_length}
use Rattle.rules.specs.Sheet.{Setting, in_use_of, slot_at, with_slot}
use Rattle.rules.specs.Refusals.{Answer, Outcome, entry_rows, entry_answer, on_slot, set_up_answer, set_up}
use Rattle.rules.specs.Pool.{own_slots, take_answer, use_at, taking}
use Rattle.std.proofs.lemmas.Bool.{cases_Bool}
use Rattle.rules.proofs.SlotWords.{slot_with_use}
use Rattle.sheet.specs.Book.{SlotCall, Call, call_set_up, call_take, call_on, answer_reply, refusal, fault_of}
use Rattle.sheet.specs.Book.{BookSlot, used, book_at, book_set_up, book_own, book_take, book_entry_rows}
use Rattle.sheet.specs.Book.{book_entry_answer}
use Rattle.sheet.specs.Book.{on_book_slot, in_book, book_step}
use Rattle.sheet.specs.OnSheet.{in_slot, step, encode_slot, encode, in_words}
use Rattle.sheet.proofs.Tables.{same_number}
use Rattle.sheet.proofs.EntryLaws.{entry_passed}
use Rattle.sheet.proofs.SlotInSheet.{set_in_slot}
use Rattle.rules.proofs.OwnSlots.{own_same}
use Rattle.sheet.proofs.TakeLaws.{settings, took, granted_lowest}
use Rattle.sheet.proofs.BookWords.{Sound, WellFormed, all_at, length_encode, slot_of, with_slot_encoded}
use Rattle.sheet.proofs.BookWords.{setting_in_book, encode_empty}
use Rattle.sheet.proofs.TextFaults.{unless_in_words}
use Rattle.sheet.proofs.SlotCalls.{keeps}

module _ (n : ℕ) (b : List BookSlot) (g : WellFormed n b) where
  exact : length (encode b) ≡ n
  exact = length_encode g.sound ∙ sym g.exact

  slots : n / slot_length ≡ length b
  slots = omega (arith, g.exact)

  -- Set-up
  set_ups : (clinics measures indents : List ℕ) →
      set_up (encode b) clinics measures indents ≡ in_words (book_set_up n clinics measures indents b)
  unfolding set_up book_set_up
  set_ups clinics measures indents =
      let a = set_up_answer n clinics measures indents in
      rw (exact, encode_empty clinics measures indents 0 (n / slot_length))
      (ap (λ w. (a, w)) (elim (cases_Bool (eqb a.number 0)) [ inl e ↦ rw e | inr e ↦ rw e ]))

  -- Take
  module _ (caller : ℕ) where
    same_own : own_slots (encode b) caller ≡ book_own n caller b
    unfolding own_slots book_own
    same_own =
        let t = setting_in_book b g.sound in
        rw exact
        (own_same (λ k. (book_at b k).setting) (settings (encode b)) caller (λ k. ap (λ (s : Setting). s.clinic) (t k))
        (λ k e. ap (λ (s : Setting). s.in_use) (t k)) 0 (n / slot_length))

    abbrev answer : Answer
    answer = take_answer n caller (book_own n caller b)

    same_answer : (taking (encode b) caller).0 ≡ answer
    unfolding taking
    same_answer = rw (same_own, exact)

    -- a slot that is granted is there, and was not in use
    pub granted_within : answer.number ≡ 0 → answer.place < length b
    granted_within z =
        let l = (granted_lowest (took (encode b) caller) (same_number same_answer ∙ z)).1.free.within in
        omega (arith, l, exact, slots, ap (λ (a : Answer). a.place) same_answer)

    pub granted_free : answer.number ≡ 0 → (book_at b answer.place).setting.in_use ≡ 0
    granted_free z =
        let f = (granted_lowest (took (encode b) caller) (same_number same_answer ∙ z)).1.free.free in
        ap (λ (s : Setting). s.in_use) (sym (setting_in_book b g.sound answer.place))
        ∙ ap (λ k. in_use_of (slot_at (encode b) k)) (sym (ap (λ (a : Answer). a.place) same_answer))
        ∙ f

    -- its word becomes 1, in the book and in the book's words
    used_words : (k : ℕ) → k < length b → set (encode b) (use_at k) 1 ≡ encode (set b k (used (book_at b k) 1))
    used_words k h =
        let s = book_at b k in
        set_in_slot (encode b) k 5 1 (omega (arith, exact, slots)) (omega arith)
        ∙ ap (λ w. with_slot (encode b) k (set w 5 1)) (slot_of b g.sound k h)
        ∙ ap (with_slot (encode b) k) (slot_with_use s.setting s.records 1)
        ∙ with_slot_encoded b g.sound k h (used s 1)

    takes : taking (encode b) caller ≡ in_words (book_take n caller b)
    unfolding taking book_take
    takes =
        rw (same_own, exact)
        (ap (λ w. (answer, w))
        (elim (cases_Bool (eqb answer.number 0)) [
          | inl e ↦ rw (e, used_words answer.place (granted_within (eqb-true _ _ e)))
          | inr e ↦ rw e
        ]))

  -- A call on a slot
  module _ (caller k : ℕ) where
    abbrev first : Answer
    first = book_entry_answer n caller k b

    same_entry : entry_answer (encode b) caller k ≡ first
    unfolding entry_answer entry_rows book_entry_rows
    same_entry =
        let t = setting_in_book b g.sound k in
        rw (ap (λ (s : Setting). s.clinic) t, ap (λ (s : Setting). s.in_use) t, exact)

    within_book : first.number ≡ 0 → k < length b
    within_book z =
        let e = entry_passed (encode b) caller k (same_number same_entry ∙ z) in
        omega (arith, e.within, exact, slots)

    abbrev slot : BookSlot
    slot = book_at b k

    pub assigned : first.number ≡ 0 → slot.setting.clinic ≡ 0 → ⊥
    assigned z c =
        let e = entry_passed (encode b) caller k (same_number same_entry ∙ z) in
        e.known (e.own ∙ ap (λ (s : Setting). s.clinic) (setting_in_book b g.sound k) ∙ c)

    pub taken : first.number ≡ 0 → slot.setting.in_use ≡ 0 → ⊥
    taken z u =
        let e = entry_passed (encode b) caller k (same_number same_entry ∙ z) in
        e.used (ap (λ (s : Setting). s.in_use) (setting_in_book b g.sound k) ∙ u)

    pub here : first.number ≡ 0 → Sound slot
    here z = all_at g.sound k _ (within_book z)

    found : first.number ≡ 0 → slot_at (encode b) k ≡ encode_slot slot
    found z = slot_of b g.sound k (within_book z)

    on_slots : (q : SlotCall) →
        on_slot (refusal q) (encode b) caller k (in_slot q) ≡
        in_words (on_book_slot (refusal q) n caller k (in_book q) b)
    unfolding on_slot on_book_slot
    on_slots q =
        elim (cases_Bool (eqb first.number 0)) [
          | inl e ↦
              let z = eqb-true _ _ e in
              rw (same_entry, e, found z, (keeps q).booked slot (here z), with_slot_encoded b g.sound k (within_book z))
          | inr e ↦ rw (same_entry, e)
        ]

  -- each call answers what the book answers, and leaves the book's words
  pub agrees : (c : Call) → step c (encode b) ≡ in_words (book_step n c b)
  agrees (call_set_up clinics measures indents) =
      ap (λ (o : Outcome Answer). (answer_reply o.0, o.1)) (set_ups clinics measures indents)
  agrees (call_take caller) = ap (λ (o : Outcome Answer). (answer_reply o.0, o.1)) (takes caller.0)
  agrees (call_on caller k q) = unless_in_words (fault_of q) b _ _ (on_slots caller.0 k.0 q)
