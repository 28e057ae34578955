-- Two sheets: what a call on a slot answers, and leaves of the slot, depends on the sheet's length, the slot's clinic
-- and, where that is the caller, the slot's words; whatever the call does there. Assumes nothing.
use Rattle.std.proofs.Common.{◌≡◌, refl, sym, ap, ◌∙◌, ℕ, ◌/◌, Bool, true, false, not, ◌||◌, List, inl, inr, leb, eqb}
use Rattle.std.proofs.Common.{length, eqb-true}
use borrow.Author.Tests.{eqb-false}
use Rattle.rules.specs.Layout.{slot_length}
use Rattle.rules.specs.Sheet.{clinic_of, in_use_of, slot_count, length_ok, slot_at}
use Rattle.rules.specs.Refusals.{Answer, says, Outcome, entry_rows, entry_answer, on_slot}
use Rattle.std.proofs.lemmas.Bool.{cases_Bool}
use Rattle.sheet.specs.Meanings.{beyond, Alike}
use Rattle.sheet.proofs.Tables.{same_number, passed}
use Rattle.sheet.proofs.EntryLaws.{four, foreign, not_foreign, entry_passed}
use Rattle.sheet.proofs.OnSlot.{KeepsLength, slot_is_inside, on_refusing}

-- a row is asked where none before it applies
four_same : (a b c e d f : Bool) → (a || b ≡ false → c ≡ e) → (a || b ≡ false → c ≡ false → d ≡ f) →
    four a b c d ≡ four a b e f
four_same true b c e d f p q = refl
four_same false true c e d f p q = refl
four_same false false true e d f p q = ap (λ g. four false false g f) (p refl)
four_same false false false e d f p q =
    ap (four false false false) (q refl refl) ∙ ap (λ g. four false false g f) (p refl)

-- by the length, the slot's clinic and, where that is the caller, its in-use word
pub entry_alike : (ws vs : List ℕ) (caller k : ℕ) → length ws ≡ length vs →
    (beyond (length ws) k ≡ false → clinic_of (slot_at ws k) ≡ clinic_of (slot_at vs k)) →
    (beyond (length ws) k ≡ false → (caller ≡ 0 → ⊥) → caller ≡ clinic_of (slot_at ws k) →
    in_use_of (slot_at ws k) ≡ in_use_of (slot_at vs k)) →
    entry_answer ws caller k ≡ entry_answer vs caller k
unfolding entry_answer entry_rows
entry_alike ws vs caller k e f g =
    let free : List ℕ → Bool = λ us. eqb (in_use_of (slot_at us k)) 0 in
    four_same (not (length_ok (length ws))) (leb (slot_count ws) k) (foreign ws caller k) (foreign vs caller k)
    (free ws)
    (free vs)
    (λ h. ap (λ c. eqb caller 0 || not (eqb caller c)) (f h))
    (λ h r. let o = not_foreign ws caller k r in ap (λ w. eqb w 0) (g h o.0 o.1))
    ∙ ap (λ n. four (not (length_ok n)) (leb (n / slot_length) k) (foreign vs caller k) (free vs)) e

-- a call that is entered is not beyond the sheet
passed_within : (ws : List ℕ) (caller k : ℕ) → (entry_answer ws caller k).number ≡ 0 → beyond (length ws) k ≡ false
unfolding entry_answer entry_rows
passed_within ws caller k z = let p = (passed 0 (entry_rows ws caller k) (says 0 0) refl z).0 in rw (p.0, p.1.0)

module _ (ws vs : List ℕ) (caller k : ℕ) (a : Alike caller k ws vs) where
  pub same_entry : entry_answer ws caller k ≡ entry_answer vs caller k
  same_entry =
      entry_alike ws vs caller k a.same_length a.same_clinic
      (λ b known own. ap in_use_of (a.same_words b known own))

  same_slot : (entry_answer ws caller k).number ≡ 0 → slot_at ws k ≡ slot_at vs k
  same_slot z =
      let e = entry_passed ws caller k z in
      a.same_words (passed_within ws caller k z) e.known e.own

  module _ {A : Type 0} (refused : Answer → A) (f : List ℕ → Outcome A) where
    abbrev on : List ℕ → Outcome A
    on us = on_slot refused us caller k f

    -- what is answered is the same on both
    pub on_alike : (on ws).0 ≡ (on vs).0
    unfolding on_slot
    on_alike =
        elim (cases_Bool (eqb (entry_answer ws caller k).number 0)) [
          | inl e ↦ rw (← same_entry, e, same_slot (eqb-true _ _ e))
          | inr e ↦ rw (← same_entry, e)
        ]

    -- and so is what is left of the slot, where the caller is its clinic
    pub on_left_alike : KeepsLength f → beyond (length ws) k ≡ false → (caller ≡ 0 → ⊥) →
        caller ≡ clinic_of (slot_at ws k) → slot_at (on ws).1 k ≡ slot_at (on vs).1 k
    on_left_alike keeps b known own =
        let same = a.same_words b known own in
        elim (cases_Bool (eqb (entry_answer ws caller k).number 0)) [
          | inl e ↦
              let z = eqb-true _ _ e in
              slot_is_inside refused ws caller k f keeps z
              ∙ ap (λ s. (f s).1) same
              ∙ sym (slot_is_inside refused vs caller k f keeps (same_number (sym same_entry) ∙ z))
          | inr e ↦
              let z = eqb-false _ _ e in
              ap (λ (o : Outcome A). slot_at o.1 k) (on_refusing refused ws caller k f z)
              ∙ same
              ∙ sym
              (ap (λ (o : Outcome A). slot_at o.1 k)
              (on_refusing refused vs caller k f (λ y. z (same_number same_entry ∙ y))))
        ]
