-- The places of a line's records from their metrics, one after the other: those that the rules give unit by unit.
-- Assumes nothing.
use Rattle.std.proofs.Common.{◌≡◌, refl, ◌∙◌, ℕ, ◌+◌, ◌≤◌, arith, add-zero, List, [], ◌∷◌, ◌++◌, map, append-nil}
use Rattle.std.proofs.Common.{length}
use Rattle.rules.specs.Layout.{most_records}
use Rattle.rules.specs.Groups.{TextUnit, advance, offsets, base_offsets}
use Rattle.rules.specs.Gaps.{Gap}
use Rattle.rules.specs.Breaks.{gap}
use Rattle.rules.specs.Adjustment.{Amounts, totals, placed}
use Rattle.rules.specs.Gaps.{plus, no_gaps}
use Rattle.rules.proofs.Widths.{gives}
use Rattle.rules.specs.Packed.{AtMost}
use Rattle.rules.proofs.Packed.{at_most_255}
use Rattle.compose.specs.Limits.{most_gaps}
use Rattle.compose.specs.Metrics.{RecordMetrics, outer, unit_metrics, metrics_of, MetricsAt, Held, held_more}
use Rattle.compose.specs.Rates.{PartOf, place_by, RateBounds}
use Rattle.compose.proofs.GapSums.{plus_assoc, plus_nothing, part_of, at_most_more}
use Rattle.compose.proofs.PlaceAt.{Gives, place_next}
use Rattle.compose.specs.declared.metrics.Metrics.{Metrics}

-- the x of the records from record k on, by the metrics that are held, after units that end at `solid` and gaps
-- that add up to s. At each record the gaps before it are part of the line's gaps c, and with the gap after it they
-- stay in their fields
pub data Places (ms : Metrics) (e : Amounts) (c : Gap) : ℕ → ℕ → Gap → List ℕ → Type 0 where
  places_none : {k solid : ℕ} {s : Gap} → Places ms e c k solid s []
  places_more : {k solid : ℕ} {s : Gap} {q : RecordMetrics} {xs : List ℕ} →
      MetricsAt q ms k → (AtMost k s → AtMost most_gaps (plus s q.gap)) →
      PartOf s c →
      Places ms e c (k + 1) (solid + q.advance) (plus s q.gap) xs →
      Places ms e c k solid s ((place_by e c solid s + q.offset) ∷ xs)

-- after the last record, which may be record 255, there is no gap
metrics_sums : (k : ℕ) {s g : Gap} (qs : List RecordMetrics) → k + 1 + length qs ≤ most_records → AtMost 1 g →
    (qs ≡ [] → g ≡ no_gaps) →
    AtMost k s → AtMost most_gaps (plus s g)
metrics_sums k {s} [] h b f a = rw (f refl, plus_nothing s) (at_most_255 a (omega arith))
metrics_sums k (q ∷ qs) h b f a = at_most_255 {n = k + 1} (at_most_more a b (omega arith)) (omega arith)

module _ {ms : Metrics} {e : Amounts} {c : Gap} where
  -- a unit: inside of it no record moves the place on
  unit_places : {k solid : ℕ} {s : Gap} {xs : List ℕ} (u : TextUnit) (vs : List TextUnit) (i : ℕ) (is : List ℕ)
      (qs : List RecordMetrics) → PartOf s c → k + length (unit_metrics u vs (i ∷ is) ++ qs) ≤ most_records →
      Held ms k (unit_metrics u vs (i ∷ is) ++ qs) →
      ((k : ℕ) → k + length qs ≤ most_records → Held ms k qs →
      Places ms e c k (solid + advance u) (plus s (outer u vs 0).gap) xs) →
      Places ms e c k solid s (map (λ o. place_by e c solid s + o) (i ∷ is) ++ xs)
  unfolding unit_metrics
  unit_places {k} u [] i [] qs p l (held_more w last h) f =
      places_more w (metrics_sums k qs (omega arith) w.gap_limit last) p (f (k + 1) (omega arith) h)
  unit_places {k} u (v ∷ vs) i [] qs p l (held_more w last h) f =
      places_more w (metrics_sums k qs (omega arith) w.gap_limit last) p (f (k + 1) (omega arith) h)
  unit_places {k} {solid} {s} {xs} u vs i (j ∷ is) qs p l (held_more w last h) f =
      let next : Places ms e c (k + 1) (solid + 0) (plus s no_gaps)
      (map (λ o. place_by e c solid s + o) (j ∷ is) ++ xs) =
      simp add-zero (unit_places {k = k + 1} u vs j is qs p (omega arith) h f) in
      places_more w (metrics_sums k _ (omega arith) w.gap_limit last) p next

  -- a line, with amounts e that its gaps c can take
  pub places_of_line : {k solid : ℕ} (s : Gap) (u : TextUnit) (us vs : List TextUnit) → RateBounds e c → Gives s →
      plus s (totals u us) ≡ c → k + length (metrics_of (u ∷ us ++ vs)) ≤ most_records →
      Held ms k (metrics_of (u ∷ us ++ vs)) →
      Places ms e c k solid s (placed e c s (place_by e c solid s) u us)
  unfolding metrics_of placed totals base_offsets offsets
  places_of_line {k} {solid} s u [] vs b g t l h =
      rw append-nil at
      (unit_places {solid = solid} {s = s} {xs = []} u vs _ _ (metrics_of vs) (part_of s no_gaps c t) l h
      (λ k m i. places_none))
  places_of_line {k} {solid} s u (v ∷ us) vs b g t l h =
      unit_places u (v ∷ us ++ vs) _ _ (metrics_of (v ∷ us ++ vs)) (part_of s (totals u (v ∷ us)) c t) l h
      (λ k m i.
      rw (place_next b s solid u v g)
      (places_of_line {k = k} {solid = solid + advance u} (plus s (gap u v)) v us vs b (omega (arith, gives u v))
      (plus_assoc s (gap u v) (totals v us) ∙ t) m i))
