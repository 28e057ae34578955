-- Laws of each run of a take and of a giving back, from those of the definitions. Assumes nothing.
use Rattle.std.proofs.Common.{◌≡◌, refl, sym, subst, ◌∙◌, ℕ, arith, true, false, List, ◌↔◌, inl, inr, length}
use Rattle.std.proofs.Common.{length-set, get_or-set_same, get_or-set_other}
use Rattle.rules.specs.Sheet.{length_ok, slot_at}
use Rattle.rules.specs.Refusals.{Answer, EditAnswer, Outcome, edit}
use Rattle.rules.specs.Pool.{use_at, taking, emptied, giving_back}
use Rattle.std.proofs.lemmas.Bool.{cases_lt, true≢false}
use Rattle.sheet.specs.FreeSlots.{Free, LowestFree, Takeable, OnlyTaken, up_to_4}
use Rattle.sheet.proofs.Lengths.{whole}
use Rattle.sheet.proofs.EntryLaws.{in_use_word}
use Rattle.sheet.proofs.TakeLaws.{Took, took_1, took_3, took_13, took_0, took}
use Rattle.sheet.proofs.GiveBackLaws.{number_as_edit, give_place, give_empties}
use Rattle.sheet.proofs.Demand3.{EditRun, TakeRun, GiveBackRun}
use Rattle.sheet.proofs.Runs.{place, deleted, inserted, answer, taker, take_reply, giver, given_slot, give_reply}
use Rattle.sheet.proofs.Runs.{given_before, given_after, Beside}

-- Takes -------------------------------------------------------------------------------------------------------------

module _ (ws : List ℕ) (caller : ℕ) where
  exactly_1 : {o : Outcome Answer} → Took ws caller o → (o.0.number ≡ 1) ↔ (length_ok (length ws) ≡ false)
  exactly_1 (took_1 e) = (λ z. e, λ f. refl)
  exactly_1 (took_3 e f) = (λ z. absurd (omega (arith, z)), λ g. absurd (true≢false (sym e ∙ g)))
  exactly_1 (took_13 t f) = (λ z. absurd (omega (arith, z)), λ g. absurd (true≢false (sym t.whole ∙ g)))
  exactly_1 (took_0 t k l) = (λ z. absurd (omega (arith, z)), λ g. absurd (true≢false (sym t.whole ∙ g)))

  exactly_3 : {o : Outcome Answer} → Took ws caller o →
      (o.0.number ≡ 3) ↔ ((length_ok (length ws) ≡ true) × (caller ≡ 0))
  exactly_3 (took_1 e) = (λ z. absurd (omega (arith, z)), λ g. absurd (true≢false (sym g.0 ∙ e)))
  exactly_3 (took_3 e f) = (λ z. (e, f), λ g. refl)
  exactly_3 (took_13 t f) = (λ z. absurd (omega (arith, z)), λ g. absurd (t.known g.1))
  exactly_3 (took_0 t k l) = (λ z. absurd (omega (arith, z)), λ g. absurd (t.known g.1))

  exactly_13 : {o : Outcome Answer} → Took ws caller o →
      (o.0.number ≡ 13) ↔ (Takeable ws caller × ((k : ℕ) → Free ws caller k → ⊥))
  exactly_13 (took_1 e) = (λ z. absurd (omega (arith, z)), λ g. absurd (true≢false (sym g.0.whole ∙ e)))
  exactly_13 (took_3 e f) = (λ z. absurd (omega (arith, z)), λ g. absurd (g.0.known f))
  exactly_13 (took_13 t f) = (λ z. (t, f), λ g. refl)
  exactly_13 (took_0 t k l) = (λ z. absurd (omega (arith, z)), λ g. absurd (g.1 k l.free))

  -- two lowest ones are the same
  one_lowest : (j k : ℕ) → LowestFree ws caller j → LowestFree ws caller k → j ≡ k
  one_lowest j k l m =
      elim (cases_lt j k) [
        | inl h ↦ absurd (m.lowest j h l.free)
        | inr h ↦
            elim (cases_lt k j) [ inl g ↦ absurd (l.lowest k g m.free) | inr g ↦ omega arith ]
      ]

  exactly_0 : {o : Outcome Answer} → Took ws caller o → (k : ℕ) →
      ((o.0.number ≡ 0) × (o.0.place ≡ k)) ↔ (Takeable ws caller × LowestFree ws caller k)
  exactly_0 (took_1 e) k =
      (λ z. absurd (omega (arith, z.0)), λ g. absurd (true≢false (sym g.0.whole ∙ e)))
  exactly_0 (took_3 e f) k = (λ z. absurd (omega (arith, z.0)), λ g. absurd (g.0.known f))
  exactly_0 (took_13 t f) k = (λ z. absurd (omega (arith, z.0)), λ g. absurd (f k g.1.free))
  exactly_0 (took_0 t j l) k = (λ z. (t, subst (LowestFree ws caller) z.1 l), λ g. (refl, one_lowest j k l g.1))

  only_taken : {o : Outcome Answer} → Took ws caller o → o.0.number ≡ 0 → OnlyTaken ws o.1 o.0.place
  only_taken (took_1 e) z = absurd (omega (arith, z))
  only_taken (took_3 e f) z = absurd (omega (arith, z))
  only_taken (took_13 t f) z = absurd (omega (arith, z))
  only_taken (took_0 t k l) z =
      record {
        same_length = length-set ws (use_at k) 1;
        was = sym (in_use_word ws k) ∙ l.free.free;
        is = get_or-set_same ws (use_at k) 1 0 (omega (arith, (whole (length ws) t.whole).exact, l.free.within));
        others = λ i other. get_or-set_other ws (use_at k) i 1 0 other;
      }

  no_place : {o : Outcome Answer} → Took ws caller o → (o.0.number ≡ 0 → ⊥) → o.0.place ≡ 0
  no_place (took_1 e) z = refl
  no_place (took_3 e f) z = refl
  no_place (took_13 t f) z = refl
  no_place (took_0 t k l) z = absurd (z refl)

module _ (u : TakeRun) where
  abbrev ws : List ℕ
  ws = u.args.0.now

  abbrev caller : ℕ
  caller = (taker u).0

  by_contract : (P : Outcome Answer → Type 0) → P (taking ws caller) → P (take_reply u, u.exit.0.now)
  by_contract P h = subst P (sym u.learnt) h

  pub run_took : Took ws caller (take_reply u, u.exit.0.now)
  run_took = by_contract (Took ws caller) (took ws caller)

  pub run_take_1 : ((take_reply u).number ≡ 1) ↔ (length_ok (length ws) ≡ false)
  run_take_1 = exactly_1 ws caller run_took

  pub run_take_3 : ((take_reply u).number ≡ 3) ↔ ((length_ok (length ws) ≡ true) × (caller ≡ 0))
  run_take_3 = exactly_3 ws caller run_took

  pub run_take_13 : ((take_reply u).number ≡ 13) ↔ (Takeable ws caller × ((k : ℕ) → Free ws caller k → ⊥))
  run_take_13 = exactly_13 ws caller run_took

  pub run_take_0 : (k : ℕ) →
      (((take_reply u).number ≡ 0) × ((take_reply u).place ≡ k)) ↔ (Takeable ws caller × LowestFree ws caller k)
  run_take_0 = exactly_0 ws caller run_took

  pub run_only_taken : (take_reply u).number ≡ 0 → OnlyTaken ws u.exit.0.now (take_reply u).place
  run_only_taken = only_taken ws caller run_took

  pub run_take_place : ((take_reply u).number ≡ 0 → ⊥) → (take_reply u).place ≡ 0
  run_take_place = no_place ws caller run_took

-- Givings back ------------------------------------------------------------------------------------------------------

module _ (u : GiveBackRun) where
  abbrev sheet : List ℕ
  sheet = u.args.0.now

  given : (P : Outcome Answer → Type 0) → P (giving_back sheet (giver u).0 (given_slot u).0) →
      P (give_reply u, u.exit.0.now)
  given P h = subst P (sym u.learnt) h

  pub run_emptied : (give_reply u).number ≡ 0 → given_after u ≡ emptied (given_before u)
  run_emptied =
      given (λ o. o.0.number ≡ 0 → slot_at o.1 (given_slot u).0 ≡ emptied (given_before u))
      (give_empties sheet (giver u).0 (given_slot u).0)

  pub run_give_place : (give_reply u).place ≡ 0
  run_give_place = given (λ o. o.0.place ≡ 0) (give_place sheet (giver u).0 (given_slot u).0)

  pub run_as_edit : (e : EditRun) → Beside u e → (give_reply u).number ≡ up_to_4 (answer e).number
  run_as_edit e b =
      let edited = edit sheet (giver u).0 (given_slot u).0 (place e) (deleted e) (inserted e) in
      subst (λ (o : Outcome EditAnswer). (give_reply u).number ≡ up_to_4 o.0.number) (sym e.learnt)
      (rw (b.same_sheet, b.same_caller, b.same_slot)
      (given (λ o. o.0.number ≡ up_to_4 edited.0.number)
      (number_as_edit sheet (giver u).0 (given_slot u).0 (place e) (deleted e) (inserted e))))
