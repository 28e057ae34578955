-- A read and its companion together are a call on the slot. Assumes nothing.
use Rattle.std.proofs.Common.{◌≡◌, refl, sym, ap, ◌∙◌, ℕ, List, inl, inr, eqb, eqb-true}
use borrow.Author.Tests.{eqb-false}
use Rattle.rules.specs.Sheet.{slot_at}
use Rattle.rules.specs.Refusals.{Outcome, entry_answer, on_slot, read_number, read_words}
use Rattle.std.proofs.lemmas.Bool.{cases_Bool}
use Rattle.sheet.specs.Book.{Reply, read_reply, reads, refusal}
use Rattle.sheet.specs.OnSheet.{read_slot, in_slot}
use Rattle.sheet.proofs.SlotInSheet.{put_back}
use Rattle.sheet.proofs.ReadLaws.{number_refused, number_in_slot, read_line_words, read_none}

module _ (ws : List ℕ) (caller k : ℕ) where
  abbrev replied : Reply
  replied = read_reply (read_number ws caller k) (read_words ws caller k)

  passed_reply : (entry_answer ws caller k).number ≡ 0 → replied ≡ read_slot (slot_at ws k)
  passed_reply z =
      let n = number_in_slot ws caller k z in
      elim (cases_Bool (eqb (read_number ws caller k) 0)) [
        | inl e ↦ rw (← n, e, read_line_words ws caller k (eqb-true _ _ e))
        | inr e ↦ rw (← n, e, read_none ws caller k (eqb-false _ _ e))
      ]

  pub read_on_slot : ◌≡◌ {A = Outcome Reply} (replied, ws) (on_slot (refusal reads) ws caller k (in_slot reads))
  unfolding on_slot
  read_on_slot =
      elim (cases_Bool (eqb (entry_answer ws caller k).number 0)) [
        | inl e ↦
            rw e
            (ap (λ r. (r, ws)) (passed_reply (eqb-true _ _ e))
            ∙ ap (λ w. (read_slot (slot_at ws k), w)) (sym (put_back ws k)))
        | inr e ↦
            let z = number_refused ws caller k _ refl (eqb-false _ _ e) in
            rw (e, ← z, read_none ws caller k (λ y. eqb-false _ _ e (z ∙ y)))
      ]
