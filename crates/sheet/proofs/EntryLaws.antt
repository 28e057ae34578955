-- Laws of the rows 1 to 3 and 14, with which each call on a slot begins, and of the words of a slot in its sheet.
-- Assumes nothing.
use Rattle.std.proofs.Common.{◌≡◌, refl, sym, ap, ◌∙◌, ℕ, zero, suc, ◌+◌, ◌-◌, ◌*◌, ◌≤◌, ◌<◌, add-zero, arith, Bool}
use Rattle.std.proofs.Common.{true, false, not, ◌||◌, List, [], ◌∷◌, leb, eqb, length, get_or, take, drop}
use Rattle.std.proofs.Common.{get_or-take, get_or-drop, take-take, drop-drop, leb-false, le-leb, eqb-true, eq-eqb}
use Rattle.std.proofs.Common.{ne_eqb}
use Rattle.std.proofs.Math.Bool.{or-true}
use borrow.Author.Tests.{lt-leb, eqb-false, not-false}
use borrow.Rule.Slice.PartMut.{put_mid}
use Rattle.rules.specs.Basics.{first_of}
use Rattle.rules.specs.Layout.{slot_length, in_use_at}
use Rattle.rules.specs.Sheet.{clinic_of, in_use_of, slot_count, length_ok, slot_at, with_slot}
use Rattle.rules.specs.Refusals.{Answer, says, Outcome, entry_rows, entry_answer}
use Rattle.rules.specs.Refusals.{on_slot}
use Rattle.rules.specs.Numbers.{refused_with}
use Rattle.rules.specs.declared.refusal.Refusal.{Refusal}
use Rattle.slot.proofs.RefusalNumbers.{number_not_0}
use Rattle.sheet.proofs.Tables.{passed, same_number}
use Rattle.sheet.proofs.Lengths.{or_left, or_right, Whole, whole}

-- an answer 0, as a call tells it
pub entry_zero : (ws : List ℕ) (caller k : ℕ) {n p : ℕ} → says n p ≡ entry_answer ws caller k → n ≡ 0 →
    (entry_answer ws caller k).number ≡ 0
entry_zero ws caller k e z = same_number (sym e) ∙ z

-- word j of slot k, in the sheet
pub word_at : (ws : List ℕ) (k j : ℕ) → j < slot_length → get_or (slot_at ws k) j 0 ≡ get_or ws (slot_length * k + j) 0
word_at ws k j h = get_or-take slot_length (drop (slot_length * k) ws) j 0 h ∙ get_or-drop (slot_length * k) ws j 0

pub clinic_at : (ws : List ℕ) (k : ℕ) → clinic_of (slot_at ws k) ≡ get_or ws (slot_length * k) 0
clinic_at ws k = rw add-zero at (word_at ws k 0 (omega arith))

pub in_use_word : (ws : List ℕ) (k : ℕ) → in_use_of (slot_at ws k) ≡ get_or ws (slot_length * k + in_use_at) 0
in_use_word ws k = word_at ws k in_use_at (omega arith)

-- a part of a slot, in its sheet
take_within : (n j m : ℕ) (l : List ℕ) → j + n ≤ m → take n (drop j (take m l)) ≡ take n (drop j l)
take_within n zero m l h = take-take n m l (omega arith)
take_within n (suc j) zero l h = absurd (omega arith)
take_within n (suc j) (suc m) [] h = refl
take_within n (suc j) (suc m) (a ∷ l) h = take_within n j m l (omega arith)

pub part_of_slot : (ws : List ℕ) (k j n : ℕ) → j + n ≤ slot_length →
    take n (drop (slot_length * k + j) ws) ≡ take n (drop j (slot_at ws k))
part_of_slot ws k j n h =
    ap (take n) (sym (drop-drop j (slot_length * k) ws))
    ∙ sym (take_within n j slot_length (drop (slot_length * k) ws) h)

-- what these rows leave of a call on slot k
pub record EntryPassed (ws : List ℕ) (caller k : ℕ) : Type 0 where
  pub whole : Whole (length ws)
  pub within : k < slot_count ws
  pub known : caller ≡ 0 → ⊥
  pub own : caller ≡ clinic_of (slot_at ws k)
  pub used : in_use_of (slot_at ws k) ≡ 0 → ⊥

-- the answer of the rows 1 to 3 and 14, by their tests
abbrev pub four : Bool → Bool → Bool → Bool → Answer
four a b c d = first_of ((a, says 1 0) ∷ (b, says 2 0) ∷ (c, says 3 0) ∷ (d, says 14 0) ∷ []) (says 0 0)

module _ (ws : List ℕ) (caller k : ℕ) where
  abbrev pub foreign : Bool
  foreign = eqb caller 0 || not (eqb caller (clinic_of (slot_at ws k)))

  abbrev free : Bool
  free = eqb (in_use_of (slot_at ws k)) 0

  -- by the tests of the four rows
  entry_by : (a b c d : Bool) → not (length_ok (length ws)) ≡ a → leb (slot_count ws) k ≡ b → foreign ≡ c → free ≡ d →
      entry_answer ws caller k ≡ four a b c d
  unfolding entry_answer entry_rows
  entry_by a b c d p q r t = rw (p, q, r, t)

  pub entry_1 : length_ok (length ws) ≡ false → entry_answer ws caller k ≡ says 1 0
  entry_1 p = entry_by true (leb (slot_count ws) k) foreign free (ap not p) refl refl refl

  pub entry_2 : length_ok (length ws) ≡ true → slot_count ws ≤ k → entry_answer ws caller k ≡ says 2 0
  entry_2 p q = entry_by false true foreign free (ap not p) (le-leb _ _ q) refl refl

  pub entry_3 : length_ok (length ws) ≡ true → k < slot_count ws → foreign ≡ true → entry_answer ws caller k ≡ says 3 0
  entry_3 p q r = entry_by false false true free (ap not p) (lt-leb _ _ q) r refl

  module _ (p : length_ok (length ws) ≡ true) (q : k < slot_count ws) (r : foreign ≡ false) where
    pub entry_14 : in_use_of (slot_at ws k) ≡ 0 → entry_answer ws caller k ≡ says 14 0
    entry_14 t = entry_by false false false true (ap not p) (lt-leb _ _ q) r (eq-eqb _ _ t)

    pub entry_0 : (in_use_of (slot_at ws k) ≡ 0 → ⊥) → entry_answer ws caller k ≡ says 0 0
    entry_0 t = entry_by false false false false (ap not p) (lt-leb _ _ q) r (ne_eqb _ _ t)

  -- a caller that is not foreign is the slot's clinic, and not 0
  pub not_foreign : foreign ≡ false → (caller ≡ 0 → ⊥) × (caller ≡ clinic_of (slot_at ws k))
  not_foreign r = (
    eqb-false _ _ (or_left (eqb caller 0) _ r),
    eqb-true _ _ (not-false _ (or_right (eqb caller 0) _ r)),
  )

  -- a call that is not refused by these rows knows this
  pub entry_passed : (entry_answer ws caller k).number ≡ 0 → EntryPassed ws caller k
  unfolding entry_answer entry_rows
  entry_passed e =
      let p = (passed 0 (entry_rows ws caller k) (says 0 0) refl e).0 in
      let r = not_foreign p.1.1.0 in
      record {
        whole = whole (length ws) (not-false _ p.0);
        within = leb-false _ _ p.1.0;
        known = r.0;
        own = r.1;
        used = eqb-false _ _ p.1.1.1.0;
      }

-- The rows as a program tests them -----------------------------------------------------------------------------------

module _ (ws : List ℕ) (caller k : ℕ) where
  within_slots : length_ok (length ws) ≡ true → slot_length * k < length ws → k < slot_count ws
  within_slots p h = omega (arith, (whole (length ws) p).exact)

  pub row_1 : length_ok (length ws) ≡ false → says 1 0 ≡ entry_answer ws caller k
  row_1 p = sym (entry_1 ws caller k p)

  module _ (p : length_ok (length ws) ≡ true) where
    pub row_2 : length ws ≤ slot_length * k → says 2 0 ≡ entry_answer ws caller k
    row_2 h = sym (entry_2 ws caller k p (omega (arith, (whole (length ws) p).exact)))

    module _ (h : slot_length * k < length ws) where
      pub row_3_unassigned : caller ≡ 0 → says 3 0 ≡ entry_answer ws caller k
      row_3_unassigned z = sym (entry_3 ws caller k p (within_slots p h) (rw (eq-eqb caller 0 z)))

      pub row_3_foreign : (caller ≡ get_or ws (slot_length * k) 0 → ⊥) → says 3 0 ≡ entry_answer ws caller k
      row_3_foreign d =
          sym (entry_3 ws caller k p (within_slots p h) (rw (clinic_at ws k, ne_eqb caller _ d, or-true)))

      module _ (known : caller ≡ 0 → ⊥) (own : caller ≡ get_or ws (slot_length * k) 0) where
        own_slot : foreign ws caller k ≡ false
        own_slot = rw (clinic_at ws k, ne_eqb caller 0 known, eq-eqb caller _ own)

        pub row_14 : get_or ws (slot_length * k + in_use_at) 0 ≡ 0 → says 14 0 ≡ entry_answer ws caller k
        row_14 z = sym (entry_14 ws caller k p (within_slots p h) own_slot (in_use_word ws k ∙ z))

        pub row_0 : (get_or ws (slot_length * k + in_use_at) 0 ≡ 0 → ⊥) → says 0 0 ≡ entry_answer ws caller k
        row_0 d = sym (entry_0 ws caller k p (within_slots p h) own_slot (λ z. d (sym (in_use_word ws k) ∙ z)))

pub ruleset entry_tests = (row_1, row_2, row_3_unassigned, row_3_foreign, row_14, row_0)

-- A call on a slot, as a program makes it ---------------------------------------------------------------------------

module _ {A : Type 0} (refused : Answer → A) (ws : List ℕ) (caller k : ℕ) (f : List ℕ → Outcome A) where
  abbrev done : Outcome A
  done = on_slot refused ws caller k f

  -- one of the rows 1 to 3 and 14 applies
  pub on_refused : (a : Answer) → a ≡ entry_answer ws caller k → (a.number ≡ 0 → ⊥) →
      ◌≡◌ {A = Outcome A} (refused a, ws) done
  unfolding on_slot
  on_refused a e z = rw (← e, ne_eqb a.number 0 z)

  -- none does: what is done on the part that is slot k, said of the sheet
  pub on_passed : (a : A) (last : List ℕ) → (entry_answer ws caller k).number ≡ 0 →
      let n = slot_length * k + slot_length - slot_length * k in
      ◌≡◌ {A = Outcome A} (a, last) (f (take n (drop (slot_length * k) ws))) →
      ◌≡◌ {A = Outcome A} (a, put_mid (slot_length * k) n ws last) done
  unfolding on_slot
  on_passed a last z h =
      let n : slot_length * k + slot_length - slot_length * k ≡ slot_length = omega arith in
      rw (n, eq-eqb _ _ z) (ap (λ (o : Outcome A). (o.0, with_slot ws k o.1)) (rw n at h))

-- a refusal by these rows, as a program has it
pub on_refusal : {A : Type 0} (tell : Answer → A) (ws : List ℕ) (caller k : ℕ) (f : List ℕ → Outcome A)
    (e : Refusal) → refused_with e ≡ entry_answer ws caller k →
    ◌≡◌ {A = Outcome A} (tell (refused_with e), ws) (on_slot tell ws caller k f)
on_refusal tell ws caller k f e h = on_refused tell ws caller k f (refused_with e) h (number_not_0 e)

-- what is done on the part of the sheet that is slot k, where none of these rows applies
pub on_range : {A : Type 0} (refused : Answer → A) (ws : List ℕ) (caller k : ℕ) (f : List ℕ → Outcome A)
    (start end : ℕ) (a : A) (last : List ℕ) → says 0 0 ≡ entry_answer ws caller k → start ≡ slot_length * k →
    end ≡ slot_length * k + slot_length →
    ◌≡◌ {A = Outcome A} (a, last) (f (take (end - start) (drop start ws))) →
    ◌≡◌ {A = Outcome A} (a, put_mid start (end - start) ws last) (on_slot refused ws caller k f)
on_range refused ws caller k f start end a last z s e h =
    rw (s, e) (on_passed refused ws caller k f a last (same_number (sym z)) (rw (s, e) at h))
