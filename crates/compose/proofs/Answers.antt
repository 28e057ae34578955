-- Answers 8, 12, 9 and 10 from the places that the searches give. Assumes nothing.
use Rattle.std.proofs.Common.{◌≡◌, sym, ap, ◌∙◌, List, [], ◌∷◌, None, Some, Result, Ok, Err, IfOk, IfErr, ℕ, zero}
use Rattle.std.proofs.Common.{suc, ◌+◌, ◌≤◌, ◌<◌, arith, length, get_or, get_or-take}
use Rattle.rules.specs.Layout.{most_records}
use Rattle.rules.specs.Basics.{Run, whole}
use Rattle.rules.specs.Records.{rec_ok, bad_record}
use Rattle.rules.specs.Listed.{is_listed, not_listed}
use Rattle.rules.specs.Groups.{TextUnit, group_fault, units, counts}
use Rattle.rules.specs.Breaks.{no_breaking}
use Rattle.rules.specs.Adjustment.{line_of, lines_of, compose}
use Rattle.rules.specs.Refusals.{says, judged}
use Rattle.rules.specs.Redone.{start}
use Rattle.rules.proofs.FirstFailing.{fails_within}
use Rattle.rules.proofs.AnswerPlaces.{fault_within}
use Rattle.rules.proofs.WordCounts.{length_lines_of}
use Rattle.rules.proofs.RecordWords.{length_records}
use Rattle.compose.specs.Paragraph.{record_count, paragraph, Checked}
use Rattle.compose.specs.Lines.{firsts, broken, composed}
use Rattle.compose.specs.LineFrom.{IsTooWide, BrokenTo}
use Rattle.compose.specs.Places.{ComposedTo}
use Rattle.compose.specs.Scan.{Reached, Front}
use Rattle.compose.specs.Composed.{Refused, Kept, outcome, Starts}
use Rattle.rules.specs.Numbers.{refused_with, answer_from}
use Rattle.rules.specs.declared.measure.Measure.{Measure}
use Rattle.rules.specs.declared.refusal.Refusal.{Refusal}
use Rattle.rules.specs.declared.refusal.Refusal.TheVariants.{IllRecord, IllGroup, NotListed}
use Rattle.compose.specs.declared.metrics.Metrics.{Metrics}

-- a record that a search finds is one of the paragraph's
len : (ws : List ℕ) → length (paragraph ws) ≡ record_count ws
len ws = length_records ws 0 (record_count ws)

module _ (ws : List ℕ) (few : record_count ws ≤ most_records) {i : ℕ} where
  pub place_8 : Some i ≡ bad_record 0 (paragraph ws) → i ≤ most_records
  unfolding bad_record
  place_8 e = omega (arith, fails_within rec_ok 0 i (paragraph ws) (sym e), len ws)

  pub place_12 : Some i ≡ not_listed 0 (paragraph ws) → i ≤ most_records
  unfolding not_listed
  place_12 e = omega (arith, fails_within is_listed 0 i (paragraph ws) (sym e), len ws)

  pub place_9 : Some i ≡ group_fault (paragraph ws) → i ≤ most_records
  place_9 e = omega (arith, fault_within i (paragraph ws) (sym e), len ws)

-- answers 8, 12 and 9, as `first_fault` finds them -----------------------------------------------------------------

module _ (ws : List ℕ) where
  pub fault_8 : {i : ℕ} → Some i ≡ bad_record 0 (paragraph ws) → Refused ws (IllRecord i)
  unfolding judged
  fault_8 f m x = rw (← f)

  module _ (sound : None ≡ bad_record 0 (paragraph ws)) where
    pub fault_12 : {i : ℕ} → Some i ≡ not_listed 0 (paragraph ws) → Refused ws (NotListed i)
    unfolding judged
    fault_12 f m x = rw (← sound, ← f)

    module _ (listed : None ≡ not_listed 0 (paragraph ws)) where
      pub fault_9 : {i : ℕ} → Some i ≡ group_fault (paragraph ws) → Refused ws (IllGroup i)
      unfolding judged
      fault_9 f m x = rw (← sound, ← listed, ← f)

      pub no_fault : None ≡ group_fault (paragraph ws) → record_count ws ≤ most_records → Checked ws
      no_fault grouped few =
          record { few = few; sound = sym sound; listed = sym listed; grouped = sym grouped }

-- a scan down to what is known before
pub all_kept : {ws : List ℕ} {ms₀ ms : Metrics} {known stop : ℕ} → Reached ws known stop ms₀ ms →
    Front ws known stop ms₀ → Kept ws ms
all_kept r f = f r.at _ r.low r.metrics r.below

-- what `check` and `compose` answer ---------------------------------------------------------------------------------

-- there are as many lines as the breaking gives
lines_composed : (ws : List ℕ) (m x : ℕ) → length (composed ws m x) ≡ length (broken ws m x)
unfolding compose
lines_composed ws m x = length_lines_of m x (broken ws m x)

-- the first record of each line, as the breaking writes them
firsts_start : (m x i : ℕ) (ls : List (Run TextUnit)) (j : ℕ) → j < length ls →
    get_or (firsts i ls) j 0 ≡ i + start j (lines_of m x ls)
unfolding firsts lines_of line_of start
firsts_start m x i [] j h = absurd (omega arith)
firsts_start m x i (l ∷ ls) zero h = omega arith
firsts_start m x i (l ∷ ls) (suc j) h =
    omega (arith, firsts_start m 0 (i + counts (whole l)) ls j (omega arith))

-- nothing else refuses a checked paragraph
module _ {ws : List ℕ} (c : Checked ws) (m : Measure) where
  pub outcome_10 : {e : Refusal} → IsTooWide ws m e → outcome ws m ≡ refused_with e
  unfolding judged
  outcome_10 w = rw (c.sound, c.listed, c.grouped, w.2, w.1)

  outcome_0 : no_breaking m.measure m.indent (units (paragraph ws)) ≡ None →
      outcome ws m ≡ says 0 (length (composed ws m.measure m.indent))
  unfolding judged
  outcome_0 f = rw (c.sound, c.listed, c.grouped, f)

  module _ {starts : List ℕ} {lines : ℕ} (b : BrokenTo ws m.measure m.indent starts lines) where
    broken_count : lines ≡ length (composed ws m.measure m.indent)
    broken_count = b.broken.count ∙ sym (lines_composed ws m.measure m.indent)

    pub outcome_broken : outcome ws m ≡ says 0 lines
    outcome_broken = rw broken_count (outcome_0 b.fits)

    pub starts_told : Starts ws m starts lines
    unfolding compose
    starts_told j l =
        let k = b.broken in
        sym (get_or-take lines starts j 0 l) ∙ ap (λ s. get_or s j 0) k.first
        ∙ omega (arith, firsts_start m.measure m.indent 0 (broken ws m.measure m.indent) j (omega (arith, k.count)))

  pub outcome_composed : {ps₀ ls₀ ps ls : List ℕ} {lines : ℕ} →
      ComposedTo ws m.measure m.indent ps₀ ls₀ ps ls lines → outcome ws m ≡ says 0 lines
  outcome_composed b = rw b.count (outcome_0 b.fits)

  -- what `check` and `compose` answer
  pub check_answer : (starts : List ℕ) (r : Result ℕ Refusal) → IfErr r (λ e. IsTooWide ws m e) →
      IfOk r (λ lines. BrokenTo ws m.measure m.indent starts lines) → outcome ws m ≡ answer_from r
  check_answer starts (Ok lines) w b = outcome_broken b
  check_answer starts (Err e) w b = outcome_10 w

  pub check_starts : (starts : List ℕ) (r : Result ℕ Refusal) →
      IfOk r (λ lines. BrokenTo ws m.measure m.indent starts lines) → IfOk r (λ lines. Starts ws m starts lines)
  check_starts starts (Ok lines) b = starts_told b
  check_starts starts (Err e) b = tt

  pub compose_answer : (ps₀ ls₀ ps ls : List ℕ) (r : Result ℕ Refusal) → IfErr r (λ e. IsTooWide ws m e) →
      IfOk r (λ count. ComposedTo ws m.measure m.indent ps₀ ls₀ ps ls count) → outcome ws m ≡ answer_from r
  compose_answer ps₀ ls₀ ps ls (Ok count) w b = outcome_composed b
  compose_answer ps₀ ls₀ ps ls (Err e) w b = outcome_10 w
