-- What each call on a slot keeps to, there and in the book. All that is proved of calls and of sequences of calls
-- follows from these: a new call is one clause here. Assumes nothing.
use Rattle.std.proofs.Common.{◌≡◌, refl, sym, ap, ◌∙◌, ℕ, ◌≤◌, ◌<◌, arith, List, [], inl, inr, length, le-ltb, lt-ltb}
use Rattle.std.proofs.Common.{ne_eqb}
use Rattle.std.proofs.Math.Bool.{or-true}
use Rattle.rules.specs.Layout.{most_records, slot_length}
use Rattle.rules.specs.Groups.{units}
use Rattle.rules.specs.Adjustment.{compose}
use Rattle.rules.specs.Sheet.{with_use, fresh, clinic_of, count_of, in_use_of}
use Rattle.rules.specs.Refusals.{Answer, says, EditAnswer, Outcome, sound, edit_slot, read_rows}
use Rattle.rules.specs.Pool.{give_back_rows, give_back_slot}
use Rattle.std.proofs.lemmas.Bool.{cases_Bool}
use Rattle.rules.proofs.Zeros.{length_zeros}
use Rattle.rules.proofs.WordCounts.{composed_few}
use Rattle.leaflet.specs.Reader.{words_in}
use Rattle.sheet.specs.Import.{replace_slot}
use Rattle.sheet.specs.Book.{SlotCall, edits, imports, reads, gives_back, answer_reply, edit_reply, read_reply}
use Rattle.sheet.specs.Book.{number_of, refusal, BookSlot, with_records, used, book_edit_rows, book_edit, book_lines}
use Rattle.sheet.specs.Book.{in_book}
use Rattle.sheet.specs.OnSheet.{read_slot, in_slot, encode_slot}
use Rattle.sheet.proofs.Tables.{passed}
use Rattle.sheet.proofs.OnSlot.{KeepsLength, RefusesUnchanged}
use Rattle.rules.proofs.SlotWords.{slot_setting, slot_in_use, slot_count, slot_line_count, slot_lines, slot_fresh}
use Rattle.rules.proofs.SlotWords.{emptied_fresh}
use Rattle.sheet.proofs.BookWords.{Sound, sound_none}
use Rattle.sheet.proofs.BookSlots.{book_answer, edited_sound, sound_words, slot_edits}
use Rattle.sheet.proofs.SlotEdits.{use_unsound, length_edit_slot, slot_refused, slot_clinic, slot_misused}
use Rattle.sheet.proofs.NumbersNotGiven.{judged_not, slot_not_14}

pub record Keeps (q : SlotCall) : Type 0 where
  -- a refusal by the rows 1 to 3 and 14 gives their number
  pub number : (a : Answer) → number_of (refusal q a) ≡ a.number
  -- on any words
  pub whole : KeepsLength (in_slot q)
  pub unchanged : RefusesUnchanged number_of (in_slot q)
  pub clinic : (s : List ℕ) → clinic_of (in_slot q s).1 ≡ clinic_of s
  -- 14 is for the rows before it, and an in-use word above 1 is 4
  pub never_14 : (s : List ℕ) → number_of (in_slot q s).0 ≡ 14 → ⊥
  pub misused : (s : List ℕ) → 1 < in_use_of s → number_of (in_slot q s).0 ≡ 4
  -- on a sound slot's words it does what the book does, and leaves a sound slot; refused, it changes nothing there
  -- either; answer 4 does not come up
  pub booked : (s : BookSlot) → Sound s → in_slot q (encode_slot s) ≡ ((in_book q s).0, encode_slot (in_book q s).1)
  pub sound : (s : BookSlot) → Sound s → (s.setting.clinic ≡ 0 → ⊥) → (s.setting.in_use ≡ 0 → ⊥) →
      Sound (in_book q s).1
  pub book_unchanged : (s : BookSlot) → (number_of (in_book q s).0 ≡ 0 → ⊥) → (in_book q s).1 ≡ s
  pub never_4 : (s : BookSlot) → number_of (in_book q s).0 ≡ 4 → ⊥

keeps_edit : (place deleted : ℕ) (inserted : List ℕ) → Keeps (edits place deleted inserted)
unfolding book_edit book_edit_rows
keeps_edit place deleted inserted =
    record {
      number = λ a. refl;
      whole = λ s h. length_edit_slot s place deleted inserted h;
      unchanged = λ s z. slot_refused s place deleted inserted z;
      clinic = λ s. slot_clinic s place deleted inserted;
      never_14 = λ s. slot_not_14 s place deleted inserted;
      misused = λ s u. slot_misused s place deleted inserted u;
      booked = λ s h.
          ap (λ (o : Outcome EditAnswer). (edit_reply o.0, o.1)) (slot_edits s h place deleted inserted);
      sound = λ s h c u. edited_sound place deleted inserted s h c u;
      book_unchanged = λ s z. rw (ne_eqb (book_answer place deleted inserted s).number 0 z);
      never_4 = λ s e. judged_not 4 refl _ _ _ (passed 4 (book_edit_rows place deleted inserted s) _ refl e).1;
    }

-- an import is the edit that deletes all records, whose count the slot's words and the book have alike
keeps_import : (size : ℕ) (text : List ℕ) → Keeps (imports size text)
unfolding replace_slot
keeps_import size text =
    let e : (s : BookSlot) → Keeps (edits 0 (length s.records) (words_in size text))
    = λ s. keeps_edit 0 (length s.records) (words_in size text) in
    record {
      number = λ a. refl;
      whole = λ s h. length_edit_slot s 0 (count_of s) (words_in size text) h;
      unchanged = λ s z. slot_refused s 0 (count_of s) (words_in size text) z;
      clinic = λ s. slot_clinic s 0 (count_of s) (words_in size text);
      never_14 = λ s. slot_not_14 s 0 (count_of s) (words_in size text);
      misused = λ s u. slot_misused s 0 (count_of s) (words_in size text) u;
      booked = λ s h.
          ap
          (λ n. let o = edit_slot (encode_slot s) 0 n (words_in size text) in (edit_reply o.0, o.1))
          (slot_count s.setting s.records)
          ∙ (e s).booked s h;
      sound = λ s h c u. (e s).sound s h c u;
      book_unchanged = λ s z. (e s).book_unchanged s z;
      never_4 = λ s f. (e s).never_4 s f;
    }

-- the lines of a sound slot are few
lines_few : (s : BookSlot) → Sound s →
    length (compose s.setting.measure s.setting.indent (units s.records)) ≤ most_records
lines_few s h = omega (arith, composed_few s.setting.measure s.setting.indent s.records, h.few)

read_booked : (s : BookSlot) → Sound s → read_slot (encode_slot s) ≡ read_reply 0 (book_lines s)
unfolding read_rows
read_booked s h =
    rw (slot_line_count, slot_in_use, le-ltb _ _ (lines_few s h), le-ltb _ _ h.use_limits)
    (ap (read_reply 0) (slot_lines s.setting s.records h.few))

read_not_14 : (s : List ℕ) → number_of (read_slot s) ≡ 14 → ⊥
unfolding read_rows
read_not_14 s e = let z : ◌≡◌ {A = ℕ} 0 14 = (passed 14 (read_rows s) (says 0 0) refl e).1 in omega arith

read_misused : (s : List ℕ) → 1 < in_use_of s → number_of (read_slot s) ≡ 4
unfolding read_rows
read_misused s u = rw (lt-ltb 1 (in_use_of s) u, or-true)

keeps_read : Keeps reads
keeps_read =
    record {
      number = λ a. refl;
      whole = λ s h. h;
      unchanged = λ s z. refl;
      clinic = λ s. refl;
      never_14 = λ s e. read_not_14 s e;
      misused = λ s u. read_misused s u;
      booked = λ s h. ap (λ r. (r, encode_slot s)) (read_booked s h);
      sound = λ s h c u. h;
      book_unchanged = λ s z. refl;
      never_4 = λ s e. omega (arith, e);
    }

-- a giving back leaves a fresh slot, as the book does
give_booked : (s : BookSlot) → Sound s →
    give_back_slot (encode_slot s) ≡ (says 0 0, encode_slot (used (with_records s []) 0))
unfolding give_back_slot give_back_rows
give_booked s h =
    rw (sound_words s h)
    (ap (λ w. (says 0 0, w))
    (emptied_fresh (encode_slot s)
    ∙ ap (λ t. fresh (with_use t 0)) (slot_setting s.setting s.records)
    ∙ sym (slot_fresh (with_use s.setting 0))))

given_length : (s : List ℕ) → length s ≡ slot_length → length (give_back_slot s).1 ≡ slot_length
unfolding give_back_slot give_back_rows
given_length s h = elim (cases_Bool (sound s)) [ inl e ↦ rw e (omega (arith, length_zeros 2821)) | inr e ↦ rw e h ]

given_unchanged : (s : List ℕ) → ((give_back_slot s).0.number ≡ 0 → ⊥) → (give_back_slot s).1 ≡ s
unfolding give_back_slot
given_unchanged s z = rw (ne_eqb _ _ z)

given_clinic : (s : List ℕ) → clinic_of (give_back_slot s).1 ≡ clinic_of s
unfolding give_back_slot give_back_rows
given_clinic s = elim (cases_Bool (sound s)) [ inl e ↦ rw e | inr e ↦ rw e ]

given_not_14 : (s : List ℕ) → (give_back_slot s).0.number ≡ 14 → ⊥
unfolding give_back_slot give_back_rows
given_not_14 s e = let z : ◌≡◌ {A = ℕ} 0 14 = (passed 14 (give_back_rows s) (says 0 0) refl e).1 in omega arith

given_misused : (s : List ℕ) → 1 < in_use_of s → (give_back_slot s).0.number ≡ 4
unfolding give_back_slot give_back_rows
given_misused s u = rw (use_unsound s u)

keeps_give : Keeps gives_back
keeps_give =
    record {
      number = λ a. refl;
      whole = λ s h. given_length s h;
      unchanged = λ s z. given_unchanged s z;
      clinic = λ s. given_clinic s;
      never_14 = λ s e. given_not_14 s e;
      misused = λ s u. given_misused s u;
      booked = λ s h. ap (λ (o : Outcome Answer). (answer_reply o.0, o.1)) (give_booked s h);
      sound = λ s h c u. sound_none (with_use s.setting 0) h.limits (omega arith);
      book_unchanged = λ s z. absurd (z refl);
      never_4 = λ s e. omega (arith, e);
    }

pub keeps : (q : SlotCall) → Keeps q
keeps (edits place deleted inserted) = keeps_edit place deleted inserted
keeps (imports size text) = keeps_import size text
keeps reads = keeps_read
keeps gives_back = keeps_give
