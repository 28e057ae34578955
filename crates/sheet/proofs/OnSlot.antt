-- Laws of a call on one slot of a sheet, whatever it does there: the words that it leaves alone, that the sheet keeps
-- its length, and that a refused call changes nothing. Every call on a slot is one of these. Assumes nothing.
use Rattle.std.proofs.Common.{◌≡◌, refl, ap, ◌∙◌, ℕ, ◌+◌, ◌*◌, ◌≤◌, arith, cond, List, inl, inr, eqb, length, get_or}
use Rattle.std.proofs.Common.{eqb-true, eq-eqb, ne_eqb}
use borrow.Author.Tests.{eqb-false}
use Rattle.rules.specs.Layout.{slot_length}
use Rattle.rules.specs.Sheet.{slot_at, with_slot}
use Rattle.rules.specs.Refusals.{Answer, Outcome, entry_answer, on_slot}
use Rattle.std.proofs.lemmas.Bool.{cases_Bool}
use Rattle.sheet.specs.Meanings.{Outside}
use Rattle.sheet.proofs.EntryLaws.{entry_passed}
use Rattle.sheet.proofs.SlotInSheet.{length_with, slot_with, word_with, length_at, put_back}

-- what is done on a slot leaves 2,824 words of 2,824
abbrev pub KeepsLength : {A : Type 0} → (List ℕ → Outcome A) → Type 0
KeepsLength f = (s : List ℕ) → length s ≡ slot_length → length (f s).1 ≡ slot_length

-- and the words as they are, where its number is not 0
abbrev pub RefusesUnchanged : {A : Type 0} → (A → ℕ) → (List ℕ → Outcome A) → Type 0
RefusesUnchanged number f = (s : List ℕ) → (number (f s).0 ≡ 0 → ⊥) → (f s).1 ≡ s

-- a slot of a sheet that a call gets to
module _ (ws : List ℕ) (caller k : ℕ) (z : (entry_answer ws caller k).number ≡ 0) where
  pub room : slot_length * k + slot_length ≤ length ws
  room = let e = entry_passed ws caller k z in omega (arith, e.within, e.whole.exact)

  pub length_slot_at : length (slot_at ws k) ≡ slot_length
  length_slot_at = length_at ws k room

module _ {A : Type 0} (refused : Answer → A) (ws : List ℕ) (caller k : ℕ) (f : List ℕ → Outcome A) where
  abbrev out : Outcome A
  out = on_slot refused ws caller k f

  abbrev inside : Outcome A
  inside = f (slot_at ws k)

  -- it is entered and changes its slot, or it leaves the sheet as it is
  pub data Done : Outcome A → Type 0 where
    entering : (entry_answer ws caller k).number ≡ 0 → Done (inside.0, with_slot ws k inside.1)
    refusing : ((entry_answer ws caller k).number ≡ 0 → ⊥) → Done (refused (entry_answer ws caller k), ws)

  pub on_cases : Done out
  unfolding on_slot
  on_cases =
      elim (cases_Bool (eqb (entry_answer ws caller k).number 0)) [
        | inl e ↦ rw e (entering (eqb-true _ _ e))
        | inr e ↦ rw e (refusing (eqb-false _ _ e))
      ]

  pub on_entering : (entry_answer ws caller k).number ≡ 0 → out ≡ (inside.0, with_slot ws k inside.1)
  unfolding on_slot
  on_entering z = rw (eq-eqb _ _ z)

  pub on_refusing : ((entry_answer ws caller k).number ≡ 0 → ⊥) → out ≡ (refused (entry_answer ws caller k), ws)
  unfolding on_slot
  on_refusing z = rw (ne_eqb _ _ z)

  -- it changes no word outside the named slot, and not the length
  module _ (keeps : KeepsLength f) where
    pub on_length : length out.1 ≡ length ws
    on_length = from on_cases
      where
        from : {o : Outcome A} → Done o → length o.1 ≡ length ws
        from (entering z) =
            length_with ws k inside.1 (room ws caller k z) (keeps _ (length_slot_at ws caller k z))
        from (refusing z) = refl

    pub on_frame : (i : ℕ) → Outside k i → get_or out.1 i 0 ≡ get_or ws i 0
    on_frame i h = from on_cases
      where
        from : {o : Outcome A} → Done o → get_or o.1 i 0 ≡ get_or ws i 0
        from (entering z) =
            word_with ws k inside.1 (room ws caller k z) (keeps _ (length_slot_at ws caller k z)) i h
        from (refusing z) = refl

    -- and the slot is what was done on it
    pub slot_is_inside : (entry_answer ws caller k).number ≡ 0 → slot_at out.1 k ≡ inside.1
    slot_is_inside z =
        ap (λ (o : Outcome A). slot_at o.1 k) (on_entering z)
        ∙ slot_with ws k inside.1 (room ws caller k z) (keeps _ (length_slot_at ws caller k z))

  -- "Every refusal leaves the whole sheet unchanged."
  pub on_unchanged : (number : A → ℕ) → ((a : Answer) → number (refused a) ≡ a.number) →
      RefusesUnchanged number f → (number out.0 ≡ 0 → ⊥) → out.1 ≡ ws
  on_unchanged number same unchanged = from on_cases
    where
      from : {o : Outcome A} → Done o → (number o.0 ≡ 0 → ⊥) → o.1 ≡ ws
      from (entering e) z = ap (with_slot ws k) (unchanged _ z) ∙ put_back ws k
      from (refusing e) z = refl

-- a call on a slot depends on what is done on that slot alone
pub on_same : {A : Type 0} (refused : Answer → A) (ws : List ℕ) (caller k : ℕ) (f g : List ℕ → Outcome A) →
    f (slot_at ws k) ≡ g (slot_at ws k) → on_slot refused ws caller k f ≡ on_slot refused ws caller k g
unfolding on_slot
on_same {A} refused ws caller k f g e =
    let a = entry_answer ws caller k in
    ap (λ (o : Outcome A). cond (eqb a.number 0) (o.0, with_slot ws k o.1) (refused a, ws)) e

-- the same call with its answer told in another way
pub on_reply : {A B : Type 0} (tell : A → B) (refused : Answer → A) (ws : List ℕ) (caller k : ℕ)
    (f : List ℕ → Outcome A) →
    let o = on_slot refused ws caller k f in
    ◌≡◌ {A = Outcome B} (tell o.0, o.1)
    (on_slot (λ a. tell (refused a)) ws caller k (λ s. (tell (f s).0, (f s).1)))
unfolding on_slot
on_reply tell refused ws caller k f =
    elim (cases_Bool (eqb (entry_answer ws caller k).number 0)) [
      | inl e ↦ rw e
      | inr e ↦ rw e
    ]
