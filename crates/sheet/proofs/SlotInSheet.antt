-- Laws of a slot in its sheet: what stands where once the slot has other words. Assumes nothing.
use Rattle.std.proofs.Common.{◌≡◌, sym, ap, ◌∙◌, ℕ, ◌+◌, ◌-◌, ◌*◌, ◌≤◌, ◌<◌, min, arith, List, ◌++◌, inl, inr, length}
use Rattle.std.proofs.Common.{get_or, take, drop, set, length-append, length-take, length-drop, take-append-drop}
use Rattle.std.proofs.Common.{length-take-le, take_at, drop_at, get_or-take, get_or-drop, get_or-append-add}
use Rattle.std.proofs.Common.{ext_get_or}
use Rattle.std.proofs.Math.ListN.{get_or-append}
use borrow.Rule.Slice.PartMut.{set_mid_at}
use Rattle.rules.specs.Layout.{slot_length}
use Rattle.rules.specs.Sheet.{slot_at, with_slot}
use Rattle.std.proofs.lemmas.Bool.{cases_lt}
use Rattle.sheet.specs.Meanings.{Outside}
use Rattle.sheet.proofs.EntryLaws.{word_at}

module _ (ws : List ℕ) (k : ℕ) (s : List ℕ) (within : slot_length * k + slot_length ≤ length ws)
    (whole : length s ≡ slot_length) where
  abbrev front : List ℕ
  front = take (slot_length * k) ws

  abbrev back : List ℕ
  back = drop slot_length (drop (slot_length * k) ws)

  length_front : length front ≡ slot_length * k
  length_front = length-take-le (slot_length * k) ws (omega arith)

  pub length_with : length (with_slot ws k s) ≡ length ws
  length_with =
      let rest = length-drop slot_length (drop (slot_length * k) ws)
      ∙ ap (λ n. n - slot_length) (length-drop (slot_length * k) ws) in
      length-append front (s ++ back) ∙ omega (arith, length_front, length-append s back, rest)

  pub slot_with : slot_at (with_slot ws k s) k ≡ s
  slot_with =
      ap (take slot_length) (drop_at front (s ++ back) (slot_length * k) length_front)
      ∙ take_at s back slot_length whole

  pub word_with : (i : ℕ) → Outside k i → get_or (with_slot ws k s) i 0 ≡ get_or ws i 0
  word_with i (inl h) =
      get_or-append front (s ++ back) 0 i (omega (arith, length_front)) ∙ get_or-take (slot_length * k) ws i 0 h
  word_with i (inr h) =
      let j : ℕ = i - (slot_length * k + slot_length) in
      let e : i ≡ length front + (length s + j) = omega (arith, length_front) in
      let f : i ≡ slot_length * k + (slot_length + j) = omega arith in
      ap (λ n. get_or (with_slot ws k s) n 0) e
      ∙ get_or-append-add front (s ++ back) (length s + j) 0
      ∙ get_or-append-add s back j 0
      ∙ get_or-drop slot_length (drop (slot_length * k) ws) j 0
      ∙ get_or-drop (slot_length * k) ws (slot_length + j) 0
      ∙ ap (λ n. get_or ws n 0) (sym f)

-- a slot for which there is room has all its words
pub length_at : (ws : List ℕ) (k : ℕ) → slot_length * k + slot_length ≤ length ws → length (slot_at ws k) ≡ slot_length
length_at ws k room = length-take-le slot_length (drop (slot_length * k) ws) (rw length-drop (omega arith))

-- slots of two sheets of one length, whose words there are the same
pub slot_by_words : (ws vs : List ℕ) (k : ℕ) → length ws ≡ length vs →
    ((j : ℕ) → j < slot_length → get_or ws (slot_length * k + j) 0 ≡ get_or vs (slot_length * k + j) 0) → slot_at ws k
    ≡ slot_at vs k
slot_by_words ws vs k e f =
    let count : (us : List ℕ) → length (slot_at us k) ≡ min slot_length (length us - slot_length * k)
    = λ us. length-take slot_length (drop (slot_length * k) us)
    ∙ ap (min slot_length) (length-drop (slot_length * k) us) in
    let few : length (slot_at ws k) ≤ slot_length = omega (arith, count ws) in
    ext_get_or 0 (slot_at ws k) (slot_at vs k)
    (count ws ∙ ap (λ n. min slot_length (n - slot_length * k)) e ∙ sym (count vs))
    (λ j h.
    let l : j < slot_length = omega (arith, few) in
    word_at ws k j l ∙ f j l ∙ sym (word_at vs k j l))

-- the slot's own words in their place
pub put_back : (ws : List ℕ) (k : ℕ) → with_slot ws k (slot_at ws k) ≡ ws
put_back ws k =
    ap (λ l. take (slot_length * k) ws ++ l) (take-append-drop slot_length (drop (slot_length * k) ws))
    ∙ take-append-drop (slot_length * k) ws

-- another slot stays as it is
pub slot_beside : (ws : List ℕ) (k : ℕ) (s : List ℕ) → slot_length * k + slot_length ≤ length ws →
    length s ≡ slot_length →
    (j : ℕ) → (j ≡ k → ⊥) → slot_at (with_slot ws k s) j ≡ slot_at ws j
slot_beside ws k s within whole j other =
    slot_by_words (with_slot ws k s) ws j (length_with ws k s within whole)
    (λ i h. word_with ws k s within whole (slot_length * j + i) (beside i h))
  where
    beside : (i : ℕ) → i < slot_length → Outside k (slot_length * j + i)
    beside i h =
        elim (cases_lt j k) [
          | inl l ↦ inl (omega arith)
          | inr l ↦ elim (cases_lt k j) [ inl g ↦ inr (omega arith) | inr g ↦ absurd (other (omega arith)) ]
        ]

-- one word of a slot changed
pub set_in_slot : (ws : List ℕ) (k j a : ℕ) → slot_length * k + slot_length ≤ length ws → j < slot_length →
    set ws (slot_length * k + j) a ≡ with_slot ws k (set (slot_at ws k) j a)
set_in_slot ws k j a within h =
    let whole = length_at ws k within in
    sym (set_mid_at (slot_length * k) slot_length j ws a (omega (arith, whole)))
