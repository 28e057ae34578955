-- A slot with other records: its words. Assumes nothing.
use Rattle.std.proofs.Common.{◌≡◌, sym, ap, ◌∙◌, List, ◌++◌, append_assoc, ℕ, ◌*◌, ◌%◌, ◌≤◌, arith, zero-add, length}
use Rattle.std.proofs.Common.{take_all, ne_eqb}
use Rattle.std.proofs.Math.Seq.{paste, take-length}
use Rattle.std.proofs.lemmas.List.{drop-replicate}
use Rattle.rules.specs.Layout.{lines_length, most_records, places_length, records_length}
use Rattle.rules.specs.Basics.{zeros, padded}
use Rattle.rules.specs.Records.{Rec, record_words}
use Rattle.rules.specs.Groups.{units}
use Rattle.rules.specs.Adjustment.{compose}
use Rattle.rules.specs.Sheet.{Setting, head, slot_words, place_words, line_words, measure_of, indent_of, setting_of}
use Rattle.rules.specs.Refusals.{Answer, Outcome, says, judged}
use Rattle.rules.proofs.Judged.{line_count}
use Rattle.rules.proofs.RecordWords.{words_records, length_records}
use Rattle.rules.proofs.WordCounts.{composed_places, composed_lines, composed_few}
use Rattle.compose.specs.Paragraph.{record_count, paragraph}
use Rattle.compose.specs.Lines.{Written}
use Rattle.compose.specs.Composed.{outcome}
use Rattle.rules.specs.Numbers.{number_of, refused_with}
use Rattle.rules.specs.declared.refusal.Refusal.{Refusal}
use Rattle.rules.specs.declared.measure.Measure.{Measure}
use Rattle.slot.proofs.RefusalNumbers.{number_not_0}
use Rattle.slot.specs.Slot.{head_of, InMeasure, replaced}

-- words at the front of zeros
padded_paste : (n k : ℕ) (ws : List ℕ) → length ws ≡ k → paste (zeros n) 0 ws k ≡ padded n ws
unfolding zeros
padded_paste n k ws e = rw (← e, take-length, zero-add) (ap (λ l. ws ++ l) (drop-replicate (length ws) n 0))

regrouped : (p l q s : List ℕ) → p ++ (l ++ (q ++ s)) ≡ p ++ l ++ q ++ s
regrouped p l q s = simp append_assoc

assembled : (t : Setting) {n n' k k' : ℕ} {a a' b b' c c' : List ℕ} →
    n ≡ n' → k ≡ k' → a ≡ a' → b ≡ b' → c ≡ c' →
    head t n k ++ (a ++ (b ++ c)) ≡ head t n' k' ++ a' ++ b' ++ c'
assembled t {n' = n'} {k' = k'} {a' = a'} {b' = b'} {c' = c'} p q e f g =
    (λ i. head t (p i) (q i) ++ (e i ++ (f i ++ g i))) ∙ regrouped (head t n' k') a' b' c'

-- new records and what is answered of them, in the slot's measure
module _ (s ws : List ℕ) (m : Measure) (whole : length ws % 6 ≡ 0) (few : record_count ws ≤ most_records)
    (e : InMeasure s m) where
  answer_is : {a : Answer} → outcome ws m ≡ a → judged (measure_of s) (indent_of s) (paragraph ws) ≡ a
  answer_is h = rw (← e.0, ← e.1) h

  pub refused_slot : (r : Refusal) → outcome ws m ≡ refused_with r →
      ◌≡◌ {A = Outcome Answer} (refused_with r, s) (replaced s (paragraph ws))
  unfolding replaced
  refused_slot r h = rw (answer_is h, ne_eqb (number_of r) 0 (number_not_0 r))

  pub count_few : (place : ℕ) → outcome ws m ≡ says 0 place → place ≤ most_records
  count_few place h =
      let rs = paragraph ws in
      omega (
        arith,
        line_count (measure_of s) (indent_of s) rs place (answer_is h),
        composed_few (measure_of s) (indent_of s) rs,
        length_records ws 0 (record_count ws),
        few,
      )

  list_padded : padded records_length ws ≡ padded records_length (record_words (paragraph ws))
  list_padded =
      let e : record_words (paragraph ws) ≡ ws =
      words_records ws (record_count ws) (omega arith) ∙ take_all (6 * record_count ws) ws (omega arith) in
      ap (λ l. padded records_length l) (sym e)

  pub accepted_slot : (places lines words : List ℕ) (place : ℕ) → outcome ws m ≡ says 0 place →
      Written ws m.measure m.indent (zeros places_length) (zeros lines_length) places lines place →
      words ≡ head_of s (record_count ws) place ++ (padded records_length ws ++ (places ++ lines)) →
      ◌≡◌ {A = Outcome Answer} (says 0 place, words) (replaced s (paragraph ws))
  unfolding replaced slot_words
  accepted_slot places lines words place h c w =
      let a = answer_is h in
      let rs = paragraph ws in
      let ls = compose (measure_of s) (indent_of s) (units rs) in
      let n : length rs ≡ record_count ws = length_records ws 0 (record_count ws) in
      let k : place ≡ length ls = line_count (measure_of s) (indent_of s) rs place a in
      let v : Written ws (measure_of s) (indent_of s) (zeros places_length) (zeros lines_length) places lines place =
      rw (e.0, e.1) at c in
      let p : places ≡ padded places_length (place_words 0 ls) =
      v.places_written
      ∙ padded_paste places_length (2 * record_count ws) (place_words 0 ls)
      (composed_places (measure_of s) (indent_of s) rs ∙ ap (λ j. 2 * j) n) in
      let l : lines ≡ padded lines_length (line_words 0 ls) =
      v.lines_written
      ∙ padded_paste lines_length (3 * place) (line_words 0 ls)
      (composed_lines (measure_of s) (indent_of s) rs ∙ ap (λ j. 3 * j) (sym k)) in
      rw a (ap (λ o. (says 0 place, o)) (w ∙ assembled (setting_of s) (sym n) k list_padded p l))

-- what an accepted replacement leaves
pub accepted_words : (s : List ℕ) (rs : List Rec) (place : ℕ) (words : List ℕ) →
    ◌≡◌ {A = Outcome Answer} (says 0 place, words) (replaced s rs) →
    (place ≡ length (compose (measure_of s) (indent_of s) (units rs))) × (words ≡ slot_words (setting_of s) rs)
unfolding replaced
accepted_words s rs place words e =
    let a : judged (measure_of s) (indent_of s) rs ≡ says 0 place = sym (ap (λ (o : Outcome Answer). o.0) e) in (
      line_count (measure_of s) (indent_of s) rs place a,
      ap (λ (o : Outcome Answer). o.1) e ∙ rw a,
    )
