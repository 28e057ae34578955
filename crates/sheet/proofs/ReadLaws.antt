-- Laws of a read: its number, and the words that it hands back. Assumes nothing.
use Rattle.std.proofs.Common.{◌≡◌, refl, sym, ◌∙◌, ℕ, ◌+◌, ◌-◌, ◌*◌, ◌≤◌, ◌<◌, arith, Bool, true, false, cond, ◌||◌}
use Rattle.std.proofs.Common.{List, [], inl, inr, ltb, eqb, length, get_or, take, drop, length-drop, length-take-le}
use Rattle.std.proofs.Common.{ltb-false, lt-ltb, le-ltb, eqb-true, eq-eqb, ne_eqb, Result, Ok, Err, IfOk}
use Rattle.std.proofs.Math.Bool.{or-true}
use borrow.Author.Tests.{eqb-false}
use Rattle.rules.specs.Basics.{first_of}
use Rattle.rules.specs.Layout.{most_records, line_length, slot_length, line_count_at, in_use_at, lines_at}
use Rattle.rules.specs.Sheet.{line_count_of, in_use_of, slot_at}
use Rattle.rules.specs.Refusals.{says, entry_rows, entry_answer}
use Rattle.rules.specs.Refusals.{read_rows, read_number, read_start, read_length, read_part, read_words}
use Rattle.std.proofs.lemmas.Bool.{cases_Bool}
use Rattle.std.specs.Result.{result_unwrap_or}
use Rattle.std.specs.declared.ops.Range.{Range}
use Rattle.rules.specs.Numbers.{number_of, refused_with}
use Rattle.sheet.specs.Told.{number_from}
use Rattle.rules.specs.declared.refusal.Refusal.{Refusal}
use Rattle.slot.proofs.RefusalNumbers.{number_not_0}
use Rattle.sheet.proofs.Tables.{same_number, then_table}
use Rattle.sheet.proofs.Lengths.{or_left, or_right}
use Rattle.sheet.proofs.EntryLaws.{word_at, in_use_word, part_of_slot, EntryPassed, entry_passed}

module _ (ws : List ℕ) (caller k : ℕ) where
  -- the rows 1 to 3 and 14, then 4
  number_by :
      let a = entry_answer ws caller k in
      read_number ws caller k ≡ (cond (eqb a.number 0) (first_of (read_rows (slot_at ws k)) (says 0 0)) a).number
  unfolding read_number entry_answer entry_rows
  number_by = same_number (then_table (entry_rows ws caller k) (read_rows (slot_at ws k)) (says 0 0) refl)

  pub number_refused : (n : ℕ) → n ≡ (entry_answer ws caller k).number → (n ≡ 0 → ⊥) → n ≡ read_number ws caller k
  number_refused n e z = rw (number_by, ← e, ne_eqb n 0 z)

  -- past these rows it is the slot's own
  pub number_in_slot : (entry_answer ws caller k).number ≡ 0 →
      read_number ws caller k ≡ (first_of (read_rows (slot_at ws k)) (says 0 0)).number
  number_in_slot z = rw (number_by, eq-eqb _ _ z)

  abbrev many : Bool
  many = ltb most_records (get_or ws (slot_length * k + line_count_at) 0)

  abbrev misused : Bool
  misused = ltb 1 (get_or ws (slot_length * k + in_use_at) 0)

  pub number_passed : (entry_answer ws caller k).number ≡ 0 → read_number ws caller k ≡ cond (many || misused) 4 0
  unfolding read_rows
  number_passed z =
      rw (number_in_slot z, word_at ws k line_count_at (omega arith), in_use_word ws k) (by_row (many || misused))
    where
      by_row : (t : Bool) → (cond t (says 4 0) (says 0 0)).number ≡ cond t 4 0
      by_row true = refl
      by_row false = refl

  -- what a read that is not refused knows of the sheet
  pub record Readable : Type 0 where
    pub entry : EntryPassed ws caller k
    pub few : get_or ws (slot_length * k + line_count_at) 0 ≤ most_records
    pub used : get_or ws (slot_length * k + in_use_at) 0 ≤ 1

  pub number_entry : read_number ws caller k ≡ 0 → (entry_answer ws caller k).number ≡ 0
  number_entry z =
      elim (cases_Bool (eqb (entry_answer ws caller k).number 0)) [
        | inl t ↦ eqb-true _ _ t
        | inr t ↦ number_refused _ refl (eqb-false _ _ t) ∙ z
      ]

  pub readable : read_number ws caller k ≡ 0 → Readable
  readable z =
      let h = number_entry z in
      let u = under (many || misused) (sym (number_passed h) ∙ z) in
      record {
        entry = entry_passed ws caller k h;
        few = ltb-false _ _ (or_left many misused u);
        used = ltb-false _ _ (or_right many misused u);
      }
    where
      under : (b : Bool) → ◌≡◌ {A = ℕ} (cond b 4 0) 0 → b ≡ false
      under true e = let y : ⊥ = omega arith in absurd y
      under false e = refl

  -- the words handed back
  pub read_refused : (read_number ws caller k ≡ 0 → ⊥) → (read_start ws caller k ≡ 0) × (read_length ws caller k ≡ 0)
  unfolding read_start read_length
  read_refused z = let e = ne_eqb _ _ z in (rw e, rw e)

  pub read_opened : read_number ws caller k ≡ 0 →
      (read_start ws caller k ≡ slot_length * k + lines_at) × (read_length ws caller k
      ≡ line_length * get_or ws (slot_length * k + line_count_at) 0)
  unfolding read_start read_length
  read_opened z = let e = eq-eqb _ _ z in (rw e, rw (e, word_at ws k line_count_at (omega arith)))

  -- by the line count and the in-use word
  pub number_under : (entry_answer ws caller k).number ≡ 0 →
      get_or ws (slot_length * k + line_count_at) 0 ≤ most_records →
      get_or ws (slot_length * k + in_use_at) 0 ≤ 1 →
      read_number ws caller k ≡ 0
  number_under z h u = rw (number_passed z, le-ltb _ _ h, le-ltb _ _ u)

  pub number_0 : (entry_answer ws caller k).number ≡ 0 → line_count_of (slot_at ws k) ≤ most_records →
      in_use_of (slot_at ws k) ≤ 1 →
      read_number ws caller k ≡ 0
  number_0 z h u = number_under z (rw (word_at ws k line_count_at (omega arith)) at h) (rw (in_use_word ws k) at u)

  pub number_over : (entry_answer ws caller k).number ≡ 0 →
      most_records < get_or ws (slot_length * k + line_count_at) 0 →
      read_number ws caller k ≡ 4
  number_over z h = rw (number_passed z, lt-ltb _ _ h)

  pub number_misused : (entry_answer ws caller k).number ≡ 0 → 1 < get_or ws (slot_length * k + in_use_at) 0 →
      read_number ws caller k ≡ 4
  number_misused z u = rw (number_passed z, lt-ltb _ _ u, or-true)

  -- the part that a read hands back lies within the sheet, and within any sheet's limits
  pub record Fits : Type 0 where
    pub inside : read_start ws caller k + read_length ws caller k ≤ length ws
    pub small : read_start ws caller k + read_length ws caller k ≤ 180736

  pub read_fits : Fits
  read_fits =
      elim (cases_Bool (eqb (read_number ws caller k) 0)) [
        | inl t ↦
            let z = eqb-true (read_number ws caller k) 0 t in
            let r = readable z in
            let o = read_opened z in
            let e = r.entry in
            record {
              inside = omega (arith, o.0, o.1, r.few, e.whole.exact, e.within);
              small = omega (arith, o.0, o.1, r.few, e.whole.few, e.within);
            }
        | inr t ↦
            let o = read_refused (eqb-false (read_number ws caller k) 0 t) in
            record { inside = omega (arith, o.0, o.1); small = omega (arith, o.0, o.1) }
      ]

  -- a part of the sheet that starts and is as long as a read says is what the read hands back
  pub record Part (part : List ℕ) (from : ℕ) : Type 0 where
    pub words : part ≡ read_words ws caller k
    pub count : length part ≡ read_length ws caller k
    pub place : from ≡ read_start ws caller k

  pub part_is : (start n : ℕ) → start ≡ read_start ws caller k → n ≡ read_length ws caller k → start + n ≤ length ws →
      Part (take n (drop start ws)) start
  unfolding read_words
  part_is start n e f h =
      record {
        words = rw (e, f);
        count = length-take-le n (drop start ws) (rw length-drop (omega arith)) ∙ f;
        place = e;
      }

  -- a read that is not refused hands back the slot's used line words
  pub read_line_words : read_number ws caller k ≡ 0 →
      read_words ws caller k ≡ take (line_length * line_count_of (slot_at ws k)) (drop lines_at (slot_at ws k))
  unfolding read_words
  read_line_words z =
      let r = read_opened z in
      let few = (readable z).few in
      let n : ℕ = line_length * get_or ws (slot_length * k + line_count_at) 0 in
      rw (r.0, r.1, word_at ws k line_count_at (omega arith)) (part_of_slot ws k lines_at n (omega arith))

  pub read_none : (read_number ws caller k ≡ 0 → ⊥) → read_words ws caller k ≡ []
  unfolding read_words
  read_none z = let r = read_refused z in rw (r.0, r.1)

  -- by its start and end
  pub part_words : let p = read_part ws caller k in take (p.1 - p.0) (drop p.0 ws) ≡ read_words ws caller k
  unfolding read_words
  part_words =
      let n : read_start ws caller k + read_length ws caller k - read_start ws caller k ≡ read_length ws caller k
      = omega arith in
      rw n

-- As a program reads them -------------------------------------------------------------------------------------------

module _ (ws : List ℕ) (caller k : ℕ) where
  pub refused_entry : (e : Refusal) → refused_with e ≡ entry_answer ws caller k → number_of e ≡ read_number ws caller k
  refused_entry e h = number_refused ws caller k (number_of e) (same_number h) (number_not_0 e)

  module _ (start : ℕ) (z : says 0 0 ≡ entry_answer ws caller k) (s : start ≡ slot_length * k) where
    passed_entry : (entry_answer ws caller k).number ≡ 0
    passed_entry = same_number (sym z)

    pub is_misused : 1 < get_or ws (start + in_use_at) 0 → 4 ≡ read_number ws caller k
    is_misused h = sym (number_misused ws caller k passed_entry (rw s at h))

    pub is_over : most_records < get_or ws (start + line_count_at) 0 → 4 ≡ read_number ws caller k
    is_over h = sym (number_over ws caller k passed_entry (rw s at h))

    module _ (u : get_or ws (start + in_use_at) 0 ≤ 1) (h : get_or ws (start + line_count_at) 0 ≤ most_records) where
      pub is_read : 0 ≡ read_number ws caller k
      is_read = sym (number_under ws caller k passed_entry (rw s at h) (rw s at u))

      pub part_read :
          ◌≡◌ {A = ℕ × ℕ} (start + lines_at, start + lines_at + line_length * get_or ws (start + line_count_at) 0)
          (read_part ws caller k)
      part_read = let o = read_opened ws caller k (sym is_read) in rw (o.0, o.1, s)

  -- 0..0 where it is refused
  pub part_or_none : (r : Result (Range ℕ) Refusal) → number_from r ≡ read_number ws caller k →
      IfOk r (λ p. ◌≡◌ {A = ℕ × ℕ} (p.start, p.end) (read_part ws caller k)) →
      let p = result_unwrap_or r (record { start = 0; end = 0 }) in
      ◌≡◌ {A = ℕ × ℕ} (p.start, p.end) (read_part ws caller k)
  part_or_none (Ok p) n h = h
  part_or_none (Err e) n h = let o = read_refused ws caller k (λ z. number_not_0 e (n ∙ z)) in rw (o.0, o.1)

pub ruleset read_tests = (refused_entry, is_misused, is_over, is_read, part_read)
