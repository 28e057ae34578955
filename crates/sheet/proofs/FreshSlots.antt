-- Laws of the fresh slots that set-up writes. Assumes nothing.
use Rattle.std.proofs.Common.{◌≡◌, sym, ap, ◌∙◌, ℕ, zero, suc, ◌+◌, ◌-◌, ◌*◌, ◌≤◌, ◌<◌, add-zero, zero-add, add-suc}
use Rattle.std.proofs.Common.{suc-add, add-one, arith, List, [], ◌∷◌, ◌++◌, append_assoc, append-nil, length, take}
use Rattle.std.proofs.Common.{drop, get_or, length-append, take_at, drop_at}
use Rattle.std.proofs.Math.Nat.{sub-zero}
use Rattle.std.proofs.Math.Seq.{paste}
use borrow.Rule.Slice.PartMut.{put_mid}
use Rattle.rules.specs.Basics.{zeros}
use Rattle.rules.specs.Layout.{slot_length, clinic_at}
use Rattle.rules.specs.Sheet.{setting, fresh}
use Rattle.rules.specs.Refusals.{setting_at, fresh_slots}
use Rattle.sheet.specs.Lists.{all_fresh}
use Rattle.rules.proofs.Zeros.{length_zeros, zeros_append}

-- a slot of zeros with its clinic, measure and indent is a fresh slot
pub pasted_fresh : (words : List ℕ) (clinic m x : ℕ) → words ≡ zeros slot_length →
    paste words clinic_at (clinic ∷ m ∷ x ∷ []) 3 ≡ fresh (setting clinic m x)
unfolding zeros
pasted_fresh words clinic m x e = rw e

-- Fresh slots -------------------------------------------------------------------------------------------------------

module _ (clinics measures indents : List ℕ) where
  pub length_fresh_slots : (k n : ℕ) → length (fresh_slots k clinics measures indents n) ≡ slot_length * n
  unfolding fresh_slots
  length_fresh_slots k zero = omega arith
  length_fresh_slots k (suc n) =
      simp (length-append, length_zeros) (omega (arith, length_fresh_slots (suc k) n))

  fresh_at : ℕ → List ℕ
  fresh_at k = fresh (setting_at clinics measures indents k)

  fresh_slots_last : (k n : ℕ) → fresh_slots k clinics measures indents (suc n)
      ≡ fresh_slots k clinics measures indents n ++ fresh_at (k + n)
  unfolding fresh_slots fresh_at
  fresh_slots_last k zero = rw (append-nil, add-zero)
  fresh_slots_last k (suc n) = rw (fresh_slots_last (suc k) n, append_assoc, add-suc, suc-add)

  -- a loop that writes the slots over zeros: those before slot k are fresh
  pub record Written (sheet : List ℕ) (k : ℕ) : Type 0 where
    pub within : k ≤ length clinics
    pub same : length sheet ≡ slot_length * length clinics
    pub now : sheet ≡ fresh_slots 0 clinics measures indents k ++ zeros (slot_length * (length clinics - k))

  pub written_none : (old : List ℕ) {n : ℕ} → old ≡ zeros n → n ≡ slot_length * length clinics → Written old 0
  unfolding fresh_slots
  written_none old {n} e h = record {
    within = omega arith;
    same = ap length e ∙ length_zeros n ∙ h;
    now = rw (sub-zero, ← h) e;
  }

  pub written_more : {sheet last : List ℕ} {k : ℕ} → Written sheet k → k < length clinics →
      (let n = slot_length * k + slot_length - slot_length * k in
      last
      ≡ paste (take n (drop (slot_length * k) sheet)) clinic_at
      (get_or clinics k 0 ∷ get_or measures k 0 ∷ get_or indents k 0 ∷ []) 3 →
      Written (put_mid (slot_length * k) n sheet last) (k + 1))
  unfolding fresh_at
  written_more {sheet} {last} {k} w h e =
      let n : slot_length * k + slot_length - slot_length * k ≡ slot_length = omega arith in
      let r : ℕ = slot_length * (length clinics - suc k) in
      let m : slot_length * (length clinics - k) ≡ slot_length + r = omega arith in
      let F : List ℕ = fresh_slots 0 clinics measures indents k in
      let l : length F ≡ slot_length * k = length_fresh_slots 0 k in
      let split : sheet ≡ F ++ (zeros slot_length ++ zeros r) = w.now ∙ rw (m, zeros_append) in
      let yet : take slot_length (drop (slot_length * k) sheet) ≡ zeros slot_length =
      rw (split, drop_at F (zeros slot_length ++ zeros r) (slot_length * k) l)
      (take_at (zeros slot_length) (zeros r) slot_length (length_zeros slot_length)) in
      let f : last ≡ fresh_at k = (rw n at e) ∙ pasted_fresh _ _ _ _ yet in
      let now : put_mid (slot_length * k) slot_length sheet last ≡ F ++ (fresh_at k ++ zeros r) =
      rw (
        split,
        f,
        take_at F (zeros slot_length ++ zeros r) (slot_length * k) l,
        drop_at F (zeros slot_length ++ zeros r) (slot_length * k) l,
        drop_at (zeros slot_length) (zeros r) slot_length (length_zeros slot_length),
      ) in
      let long : length (fresh_at k) ≡ slot_length = omega (arith, length_zeros (slot_length - 6)) in
      let more : fresh_slots 0 clinics measures indents (suc k) ≡ F ++ fresh_at k =
      fresh_slots_last 0 k ∙ ap (λ j. F ++ fresh_at j) (zero-add k) in
      record {
        within = omega arith;
        same = rw n
            (ap length now ∙ length-append F (fresh_at k ++ zeros r)
            ∙ omega (arith, l, length-append (fresh_at k) (zeros r), long, length_zeros r));
        now = rw (n, add-one k) (now ∙ sym (ap (λ l. l ++ zeros r) more ∙ append_assoc F (fresh_at k) (zeros r)));
      }

  pub written_all : {sheet : List ℕ} {k : ℕ} → Written sheet k → length clinics ≤ k →
      sheet ≡ all_fresh clinics measures indents
  unfolding zeros
  written_all {sheet} {k} w h =
      let n : slot_length * (length clinics - k) ≡ 0 = omega arith in
      let e : k ≡ length clinics = omega (arith, w.within) in
      w.now ∙ rw (n, append-nil, e)
