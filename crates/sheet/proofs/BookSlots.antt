-- One slot: an edit of a sound slot's words does what the book does with its records, and the single edit leaves
-- them. Assumes nothing.
use Rattle.std.proofs.Common.{◌≡◌, refl, sym, ap, ◌∙◌, ℕ, ◌+◌, ◌-◌, ◌/◌, ◌%◌, ◌≤◌, arith, true, false, cond, ◌||◌}
use Rattle.std.proofs.Common.{List, [], ◌∷◌, append-nil, inl, inr, leb, ltb, eqb, length, length-append, length-drop}
use Rattle.std.proofs.Common.{length-take-le, ltb-false, le-leb, le-ltb, eqb-true, eq-eqb}
use Rattle.rules.specs.Basics.{first_of}
use Rattle.rules.specs.Layout.{most_records, record_length}
use Rattle.rules.specs.Records.{Rec, records, record_words}
use Rattle.rules.specs.Sheet.{slot_words, measure_of, indent_of, setting_of, limits_ok}
use Rattle.rules.specs.Refusals.{Answer, EditAnswer, reporting, Outcome, judged, sound, splice, edited, edit_redone}
use Rattle.rules.specs.Refusals.{slot_rows, edit_slot}
use Rattle.std.proofs.lemmas.Bool.{cases_Bool}
use Rattle.rules.proofs.RecordLimits.{and_right}
use Rattle.sheet.specs.Book.{BookSlot, with_records, book_edit_rows, book_edited, book_redone, fresh_slot, single_of}
use Rattle.sheet.specs.Book.{single}
use Rattle.sheet.specs.OnSheet.{encode_slot}
use Rattle.rules.proofs.RecordWords.{length_records}
use Rattle.sheet.proofs.Tables.{passed}
use Rattle.sheet.proofs.Lengths.{or_right}
use Rattle.rules.proofs.SlotWords.{length_record_words, records_again}
use Rattle.rules.proofs.SlotWords.{slot_setting, slot_measure, slot_indent, slot_in_use, slot_count, slot_records}
use Rattle.rules.proofs.SlotWords.{slot_fresh}
use Rattle.sheet.proofs.BookWords.{Sound, sound_none}

-- The splice --------------------------------------------------------------------------------------------------------

length_splice : (rs : List Rec) (place deleted : ℕ) (new : List Rec) → place + deleted ≤ length rs →
    length (splice rs place deleted new) ≡ length rs - deleted + length new
unfolding splice
length_splice rs place deleted new h =
    simp (length-append, length-drop, length-take-le place rs (omega arith)) (omega arith)

-- where the rows 5 and 7 do not apply, at most 256 records result
pub splice_few : (rs : List Rec) (place deleted : ℕ) (ws : List ℕ) →
    ltb (length rs) place || ltb (length rs) (place + deleted) ≡ false →
    ltb most_records (length rs - deleted + length ws / record_length) ≡ false →
    length (splice rs place deleted (records ws 0 (length ws / record_length))) ≤ most_records
splice_few rs place deleted ws p q =
    let new = records ws 0 (length ws / record_length) in
    let h : place + deleted ≤ length rs = ltb-false _ _ (or_right (ltb (length rs) place) _ p) in
    let few : length rs - deleted + length ws / record_length ≤ most_records = ltb-false _ _ q in
    omega (arith, length_splice rs place deleted new h, length_records ws 0 (length ws / record_length))

-- The book's edit of one slot ---------------------------------------------------------------------------------------

-- its answer by the rows 5 to 10
abbrev pub book_answer : ℕ → ℕ → List ℕ → BookSlot → Answer
book_answer place deleted inserted s =
    let t = book_edited place deleted inserted s in
    first_of (book_edit_rows place deleted inserted s) (judged t.setting.measure t.setting.indent t.records)

-- the slot afterwards
abbrev pub book_after : ℕ → ℕ → List ℕ → BookSlot → BookSlot
book_after place deleted inserted s =
    cond (eqb (book_answer place deleted inserted s).number 0) (book_edited place deleted inserted s) s

-- On the slot's words -----------------------------------------------------------------------------------------------

module _ (s : BookSlot) (h : Sound s) where
  abbrev words : List ℕ
  words = encode_slot s

  -- answer 4 does not apply
  pub sound_words : sound words ≡ true
  unfolding sound
  sound_words =
      let t = s.setting in
      let l = and_right (leb t.clinic 65535) (limits_ok t.measure t.indent) h.limits in
      rw (
        slot_records,
        slot_measure,
        slot_indent,
        slot_count,
        slot_in_use,
        l,
        le-leb _ _ h.few,
        le-leb _ _ h.use_limits,
        eq-eqb _ _ h.right,
      )

  module _ (place deleted : ℕ) (inserted : List ℕ) where
    same_answer : first_of (slot_rows words place deleted inserted)
        (judged (measure_of words) (indent_of words) (edited words place deleted inserted))
        ≡ book_answer place deleted inserted s
    unfolding slot_rows book_edit_rows book_edited
    same_answer = rw (sound_words, slot_records, slot_measure, slot_indent, slot_count)

    same_words : slot_words (setting_of words) (edited words place deleted inserted)
        ≡ encode_slot (book_edited place deleted inserted s)
    unfolding book_edited
    same_words =
        ap (λ t. slot_words t (edited words place deleted inserted)) (slot_setting s.setting s.records)
        ∙ rw slot_records

    same_redone : edit_redone words place deleted inserted ≡ book_redone place deleted inserted s
    unfolding book_redone
    same_redone = rw (slot_records, slot_measure, slot_indent)

    pub slot_edits : edit_slot words place deleted inserted
        ≡ (
          reporting (book_answer place deleted inserted s) (book_redone place deleted inserted s),
          encode_slot (book_after place deleted inserted s),
        )
    unfolding edit_slot
    slot_edits =
        let a = book_answer place deleted inserted s in
        rw (same_answer, same_words, same_redone)
        (ap (λ w. (reporting a (book_redone place deleted inserted s), w))
        (elim (cases_Bool (eqb a.number 0)) [ inl e ↦ rw e | inr e ↦ rw e ]))

-- an edit of an assigned slot in use leaves a sound slot
pub edited_sound : (place deleted : ℕ) (inserted : List ℕ) (s : BookSlot) → Sound s → (s.setting.clinic ≡ 0 → ⊥) →
    (s.setting.in_use ≡ 0 → ⊥) → Sound (book_after place deleted inserted s)
unfolding book_edited book_edit_rows
edited_sound place deleted inserted s h assigned used =
    elim (cases_Bool (eqb (book_answer place deleted inserted s).number 0)) [
      | inl e ↦
          let p = passed 0 (book_edit_rows place deleted inserted s) _ refl (eqb-true _ _ e) in
          rw e
          (record {
            limits = h.limits;
            use_limits = h.use_limits;
            unassigned = λ c. absurd (assigned c);
            unused = λ u. absurd (used u);
            few = splice_few s.records place deleted inserted p.0.0 p.0.1.1.0;
            right = p.1;
          })
      | inr e ↦ rw e h
    ]

-- The single edit ---------------------------------------------------------------------------------------------------

module _ (s : BookSlot) (h : Sound s) where
  abbrev empty : BookSlot
  empty = with_records s []

  abbrev all : List ℕ
  all = record_words s.records

  abbrev answer : Answer
  answer = judged s.setting.measure s.setting.indent s.records

  edited_all : book_edited 0 0 all empty ≡ s
  unfolding book_edited splice
  edited_all = rw (records_again, append-nil)

  answer_all : book_answer 0 0 all empty ≡ answer
  unfolding book_edit_rows
  answer_all =
      let n = length_record_words s.records in
      let six : length all % record_length ≡ 0 = omega (arith, n) in
      let few : 0 - 0 + length all / record_length ≤ most_records = omega (arith, n, h.few) in
      rw (edited_all, eq-eqb _ _ six, le-ltb _ _ few)

  -- of a fresh slot, with all the records of a sound one
  pub single_edit : edit_slot (fresh_slot s) 0 0 all ≡ (reporting answer (book_redone 0 0 all empty), encode_slot s)
  single_edit =
      ap (λ w. edit_slot w 0 0 all) (sym (slot_fresh s.setting))
      ∙ slot_edits empty (sound_none s.setting h.limits h.use_limits) 0 0 all
      ∙ rw (answer_all, eq-eqb _ _ h.right, edited_all)

-- so a slot's words do not show its history
pub single_is : (s : BookSlot) → Sound s → encode_slot s ≡ single s
single_is s h = from s.records refl
  where
    from : (rs : List Rec) → s.records ≡ rs → encode_slot s ≡ single_of s rs
    from [] e = ap (slot_words s.setting) e ∙ slot_fresh s.setting
    from (r ∷ rs) e =
        sym (ap (λ (o : Outcome EditAnswer). o.1) (single_edit s h))
        ∙ ap (λ qs. (edit_slot (fresh_slot s) 0 0 (record_words qs)).1) e
