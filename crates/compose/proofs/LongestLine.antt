-- The loop of `longest_line`, as steps from record to record: what is left from a record on gives what the whole gives.
-- Assumes nothing.
use Rattle.std.specs.Prelude.{⊤}
use Rattle.std.proofs.Common.{◌≡◌, refl, ap, sym, ℕ, ◌+◌, ◌*◌, ◌-◌, ◌/◌, ◌%◌, min, ◌≤◌, ◌<◌, arith, Bool, true, false}
use Rattle.std.proofs.Common.{cond, List, [], ◌∷◌, ◌⊎◌, inl, inr, length, get_or, Option, None, Some, IfNone, IfSome}
use Rattle.std.proofs.Common.{take_all, le-leb}
use borrow.Author.Tests.{lt-leb}
use Rattle.compose.proofs.Sums.{Sums, no_units}
use Rattle.rules.specs.Layout.{most_records}
use Rattle.rules.specs.Limits.{largest_measure, largest_advance}
use Rattle.rules.specs.Records.{records}
use Rattle.rules.specs.Gaps.{Gap, plus, no_gaps, least}
use Rattle.rules.specs.Packed.{Packs, AtMost}
use Rattle.rules.proofs.WordCounts.{counts_units}
use Rattle.rules.proofs.Packed.{at_most_255, plus_packs}
use Rattle.rules.proofs.RecordWords.{length_records}
use Rattle.compose.specs.Limits.{most_gaps}
use Rattle.compose.specs.Paragraph.{record_count, units_from}
use Rattle.compose.specs.Metrics.{RecordMetrics, metrics_of, bit, Held, held_more, held_none}
use Rattle.compose.specs.LineFrom.{LineDue, NoLine, LineFrom}
use Rattle.compose.specs.declared.breaking.LineSums.{LineSums}
use Rattle.compose.proofs.GapSums.{at_most_more}
use Rattle.compose.proofs.JointAfter.{bit_small}
use Rattle.compose.proofs.HeldMetrics.{length_metrics_of}
use Rattle.compose.proofs.SearchByMetrics.{searched, searched_by_runs}
use Rattle.compose.proofs.LineAt.{sums_by, given, found_none, found_line}
use Rattle.compose.specs.declared.metrics.Metrics.{Metrics}

-- the sums of the line that is remembered, if one is
abbrev pub sums_of : ℕ → ℕ → Option LineSums → Sums
sums_of i x None = no_units i x
sums_of i x (Some l) = sums_by l

abbrev pub Remembered : ℕ → Option LineSums → Type 0
Remembered i None = ⊤
Remembered i (Some l) = (i < l.end) × AtMost most_gaps l.gaps × Packs l.gaps

-- the search is at record k, after units that end at `solid` and gaps of the sum `total`
pub record Search (ws : List ℕ) (ms : Metrics) (i k m x : ℕ) (line : Option LineSums) (solid : ℕ) (total : Gap)
    : Type 0 where
  pub low : i ≤ k
  pub left : List RecordMetrics
  pub held : Held ms k left
  pub number : k + length left ≡ record_count ws
  pub same : searched m left (record { end = k; solid = solid; gaps = total }) (sums_of i x line)
      ≡ given ws i m x
  pub solid_limit : solid ≤ largest_measure
  pub limit : AtMost (min k most_gaps) total
  pub packs : Packs total
  pub line_is : Remembered i line

-- the line that is remembered after a record, whose word is w: one that ends with it, or the line before
abbrev pub Next : ℕ → LineSums → Option LineSums → Option LineSums → Type 0
Next w new line l = ((w % 2 ≡ 0) × (l ≡ Some new)) ⊎ ((w % 2 ≡ 0 → ⊥) × (l ≡ line))

next_is : (i x : ℕ) (forbidden : Bool) (a : ℕ) {w : ℕ} {new : LineSums} {line l : Option LineSums} →
    w ≡ 2 * a + bit forbidden → Next w new line l →
    sums_of i x l ≡ cond forbidden (sums_of i x line) (sums_by new)
next_is i x true a e (inl c) = absurd (omega arith)
next_is i x true a e (inr c) = ap (λ l. sums_of i x l) c.1
next_is i x false a e (inl c) = ap (λ l. sums_of i x l) c.1
next_is i x false a e (inr c) = absurd (c.0 (omega arith))

-- what the search gives
pub record Ended (ws : List ℕ) (i m x : ℕ) (line : Option LineSums) : Type 0 where
  pub none_fits : IfNone line (NoLine ws i m x)
  pub line_from : IfSome line (λ l. LineFrom ws i m x l)

ended : {ws : List ℕ} {ms : Metrics} {i m x : ℕ} → LineDue ws ms i m x → (line : Option LineSums) →
    Remembered i line → sums_of i x line ≡ given ws i m x → Ended ws i m x line
ended p None r e = record { none_fits = found_none p e; line_from = tt }
ended p (Some l) r e = record { none_fits = tt; line_from = found_line p l r.1 r.2 r.0 e }

-- one turn, at record k: its sums stay within limits; it ends the search, or the search goes on
pub record Turn {ws : List ℕ} {ms : Metrics} {m x i : ℕ} {line : Option LineSums} {solid k : ℕ} {total : Gap}
    (s : Search ws ms i k m x line solid total) : Type 0 where
  pub solid_limit : solid + get_or ms.advances k 0 / 2 ≤ largest_measure + largest_advance
  pub sums : AtMost most_gaps (plus total (get_or ms.gaps k no_gaps))
  pub over : m < solid + get_or ms.advances k 0 / 2 + least total → Ended ws i m x line
  pub on : {t : Gap} {l : Option LineSums} → solid + get_or ms.advances k 0 / 2 + least total ≤ m →
      t ≡ plus total (get_or ms.gaps k no_gaps) →
      Next (get_or ms.advances k 0) (record { end = k + 1; solid = solid + get_or ms.advances k 0 / 2; gaps = total })
      line l →
      Search ws ms i (k + 1) m x l (solid + get_or ms.advances k 0 / 2) t

module _ {ws : List ℕ} {ms : Metrics} {i m x : ℕ} (few : record_count ws ≤ most_records) (p : LineDue ws ms i m x) where
  pub search_start : Search ws ms i i m x None x no_gaps
  unfolding units_from
  search_start =
      let n = record_count ws - i in
      record {
        low = omega arith;
        left = metrics_of (units_from ws i);
        held = p.metrics;
        number = omega
            (arith, length_metrics_of (units_from ws i), counts_units (records ws i n), length_records ws i n);
        same = searched_by_runs m (units_from ws i) _ _;
        solid_limit = p.indent;
        limit = omega arith;
        packs = omega arith;
        line_is = tt;
      }

  module _ {line : Option LineSums} {solid k : ℕ} {total : Gap} (s : Search ws ms i k m x line solid total) where
    pub search_end : record_count ws ≤ k → Ended ws i m x line
    unfolding searched
    search_end h =
        let none = sym (take_all 0 s.left (omega arith)) in
        ended p line s.line_is (rw none at s.same)

    -- the sums with the gap after a record
    sums_limit : (q : RecordMetrics) (qs : List RecordMetrics) → (qs ≡ [] → q.gap ≡ no_gaps) → AtMost 1 q.gap →
        s.left ≡ q ∷ qs →
        AtMost (min (k + 1) most_gaps) (plus total q.gap)
    sums_limit q [] last b e = rw (last refl) (omega arith)
    sums_limit q (q₂ ∷ qs) last b e =
        at_most_more s.limit b (omega (arith, ap length e))

    turn_held : {left : List RecordMetrics} → Held ms k left → s.left ≡ left → k < record_count ws → Turn s
    unfolding searched
    turn_held held_none e h = absurd (omega (arith, ap length e))
    turn_held (held_more {q = q} {qs = qs} w last d) e h =
        let half : get_or ms.advances k 0 / 2 ≡ q.advance = omega (arith, bit_small q.forbidden) in
        let same = rw (e, searched, ← half, ← w.gap) at s.same in
        let sums = sums_limit q qs last w.gap_limit e in
        record {
          solid_limit = omega arith;
          sums = rw w.gap (at_most_255 sums (omega arith));
          over = λ o. ended p line s.line_is (rw (lt-leb _ _ o) at same);
          on = λ {t} {l} o z c.
              record {
                low = omega arith;
                left = qs;
                held = d;
                number = omega (arith, ap length e);
                same = rw (z, next_is i x q.forbidden q.advance w.advance c) (rw (le-leb _ _ o) at same);
                solid_limit = omega arith;
                limit = rw (z, w.gap) sums;
                packs = rw (z, w.gap) (plus_packs total q.gap s.packs w.packs);
                line_is = elim c [
                  | inl n ↦ rw n.1 (omega arith, at_most_255 s.limit (omega arith), s.packs)
                  | inr n ↦ rw n.1 s.line_is
                ];
              };
        }

    pub turn : k < record_count ws → Turn s
    turn h = turn_held s.held refl h
