-- Laws of a book's words: where a slot's words stand, and what stands there after one slot is changed.
-- Assumes nothing.
use Rattle.std.proofs.Common.{◌≡◌, refl, sym, ap, ◌∙◌, ℕ, zero, suc, ◌*◌, ◌≤◌, ◌<◌, arith, true, List, [], ◌∷◌, ◌++◌}
use Rattle.std.proofs.Common.{append_assoc, inl, inr, None, Some, length, get_or, take, drop, set, length-append}
use Rattle.std.proofs.Common.{drop_of_length-le, take_at, drop_at, length-take-le}
use Rattle.std.proofs.Math.ListN.{get_or-eq_default}
use Rattle.std.proofs.Math.Seq.{split_at, set_split}
use Rattle.rules.specs.Layout.{most_records, slot_length}
use Rattle.rules.specs.Records.{bad_record}
use Rattle.rules.specs.Basics.{cut, first_failing}
use Rattle.rules.specs.Listed.{not_listed}
use Rattle.rules.specs.Groups.{group_fault, units}
use Rattle.rules.specs.Breaks.{runs, wide_run, no_breaking}
use Rattle.rules.specs.Sheet.{Setting, setting_of, slot_limits_ok, slot_at, with_slot}
use Rattle.rules.specs.Refusals.{judged, setting_at, bad_slot, fresh_slots}
use Rattle.rules.specs.Meanings.{All, all_none, all_more}
use Rattle.std.proofs.lemmas.Bool.{cases_Bool, cases_lt}
use Rattle.std.proofs.lemmas.Option.{none-some}
use Rattle.rules.proofs.All.{all_take}
use Rattle.sheet.specs.Book.{BookSlot, book_at, empty_slots}
use Rattle.sheet.specs.OnSheet.{encode_slot, encode}
use Rattle.rules.proofs.SlotWords.{length_slot, slot_setting, slot_fresh}

-- Well-formed books -------------------------------------------------------------------------------------------------

-- a slot within its limits, whose records are at most 256 and fall under none of 8, 12, 9 and 10; one that is
-- unassigned or not in use has none
pub record Sound (s : BookSlot) : Type 0 where
  pub limits : slot_limits_ok s.setting ≡ true
  pub use_limits : s.setting.in_use ≤ 1
  pub unassigned : s.setting.clinic ≡ 0 → s.records ≡ []
  pub unused : s.setting.in_use ≡ 0 → s.records ≡ []
  pub few : length s.records ≤ most_records
  pub right : (judged s.setting.measure s.setting.indent s.records).number ≡ 0

-- a book of a sheet of n words
pub record WellFormed (n : ℕ) (b : List BookSlot) : Type 0 where
  pub sound : All Sound b
  pub exact : n ≡ slot_length * length b
  pub some : 1 ≤ length b
  pub few : length b ≤ 64

module _ {A : Type 0} {P : A → Type 0} where
  pub all_at : {bs : List A} → All P bs → (k : ℕ) (d : A) → k < length bs → P (get_or bs k d)
  all_at all_none k d h = absurd (omega arith)
  all_at (all_more p ps) zero d h = p
  all_at (all_more p ps) (suc k) d h = all_at ps k d (omega arith)

  pub all_set : {bs : List A} → All P bs → (k : ℕ) (a : A) → P a → All P (set bs k a)
  all_set all_none k a h = all_none
  all_set (all_more p ps) zero a h = all_more h ps
  all_set (all_more p ps) (suc k) a h = all_more p (all_set ps k a h)

-- Where the words stand ---------------------------------------------------------------------------------------------

pub length_encode_slot : {s : BookSlot} → Sound s → length (encode_slot s) ≡ slot_length
length_encode_slot {s} h = length_slot s.setting s.records h.few

pub length_encode : {b : List BookSlot} → All Sound b → length (encode b) ≡ slot_length * length b
length_encode all_none = omega arith
length_encode (all_more {a = s} {bs = b} h hs) =
    length-append (encode_slot s) (encode b) ∙ omega (arith, length_encode_slot h, length_encode hs)

encode_append : (b d : List BookSlot) → encode (b ++ d) ≡ encode b ++ encode d
encode_append [] d = refl
encode_append (s ∷ b) d =
    ap (λ l. encode_slot s ++ l) (encode_append b d) ∙ sym (append_assoc (encode_slot s) (encode b) (encode d))

module _ (b : List BookSlot) (h : All Sound b) (k : ℕ) (within : k < length b) where
  abbrev before : List ℕ
  before = encode (take k b)

  abbrev here : List ℕ
  here = encode_slot (book_at b k)

  abbrev after : List ℕ
  after = encode (drop (suc k) b)

  length_before : length before ≡ slot_length * k
  length_before = length_encode (all_take h k) ∙ ap (λ n. slot_length * n) (length-take-le k b (omega arith))

  length_here : length here ≡ slot_length
  length_here = length_encode_slot (all_at h k _ within)

  parts : encode b ≡ before ++ (here ++ after)
  parts = ap encode (split_at b k _ within) ∙ encode_append (take k b) (book_at b k ∷ drop (suc k) b)

  -- slot k of the words is slot k of the book
  pub slot_of : slot_at (encode b) k ≡ here
  slot_of =
      ap (λ l. slot_at l k) parts
      ∙ ap (take slot_length) (drop_at before (here ++ after) (slot_length * k) length_before)
      ∙ take_at here after slot_length length_here

  -- and to write other words there is to change the slot in the book
  pub with_slot_encoded : (t : BookSlot) → with_slot (encode b) k (encode_slot t) ≡ encode (set b k t)
  with_slot_encoded t =
      let rest : drop slot_length (drop (slot_length * k) (before ++ (here ++ after))) ≡ after
      = ap (drop slot_length) (drop_at before (here ++ after) (slot_length * k) length_before)
      ∙ drop_at here after slot_length length_here in
      ap (λ l. with_slot l k (encode_slot t)) parts
      ∙ rw (take_at before (here ++ after) (slot_length * k) length_before, rest)
      (sym (ap encode (set_split b k t within) ∙ encode_append (take k b) (t ∷ drop (suc k) b)))

-- the setting of any slot, also past the end
pub setting_in_book : (b : List BookSlot) → All Sound b → (k : ℕ) →
    setting_of (slot_at (encode b) k) ≡ (book_at b k).setting
setting_in_book b h k =
    elim (cases_lt k (length b)) [
      | inl w ↦ ap setting_of (slot_of b h k w) ∙ slot_setting (book_at b k).setting (book_at b k).records
      | inr w ↦
          let none : drop (slot_length * k) (encode b) ≡ []
          = drop_of_length-le (encode b) {i = slot_length * k} (omega (arith, length_encode h)) in
          ap (λ l. setting_of (take slot_length l)) none ∙ sym (ap (λ s. s.setting) (get_or-eq_default b _ {n = k} w))
    ]

-- What set-up leaves ------------------------------------------------------------------------------------------------

pub none_right : (m x : ℕ) → (judged m x []).number ≡ 0
unfolding judged bad_record not_listed first_failing group_fault no_breaking wide_run runs units cut
none_right m x = refl

pub sound_none : (t : Setting) → slot_limits_ok t ≡ true → t.in_use ≤ 1 → Sound (record { setting = t; records = [] })
sound_none t e u =
    record {
      limits = e;
      use_limits = u;
      unassigned = λ z. refl;
      unused = λ z. refl;
      few = omega arith;
      right = none_right t.measure t.indent;
    }

module _ (clinics measures indents : List ℕ) where
  pub encode_empty : (k n : ℕ) → fresh_slots k clinics measures indents n
      ≡ encode (empty_slots k clinics measures indents n)
  unfolding fresh_slots empty_slots
  encode_empty k zero = refl
  encode_empty k (suc n) = rw (slot_fresh, encode_empty (suc k) n)

  pub length_empty : (k n : ℕ) → length (empty_slots k clinics measures indents n) ≡ n
  unfolding empty_slots
  length_empty k zero = refl
  length_empty k (suc n) = ap suc (length_empty (suc k) n)

  pub sound_empty : (k n : ℕ) → bad_slot k clinics measures indents n ≡ None →
      All Sound (empty_slots k clinics measures indents n)
  unfolding bad_slot empty_slots
  sound_empty k zero e = all_none
  sound_empty k (suc n) e =
      elim (cases_Bool (slot_limits_ok (setting_at clinics measures indents k))) [
        | inl t ↦
            all_more (sound_none (setting_at clinics measures indents k) t (omega arith))
            (sound_empty (suc k) n (rw (t, bad_slot) at e))
        | inr t ↦ let f : Some k ≡ None = rw (t, bad_slot) at e in absurd (none-some _ (sym f))
      ]
