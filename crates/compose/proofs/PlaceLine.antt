-- The places of a line's records, as `place_line` writes them one after the other. Assumes nothing.
use Rattle.std.proofs.Common.{◌≡◌, refl, ap, sym, ◌∙◌, ℕ, ◌+◌, ◌*◌, ◌-◌, ◌/◌, ◌^◌, ◌≤◌, ◌<◌, arith, List, [], ◌∷◌}
use Rattle.std.proofs.Common.{length, get_or}
use Rattle.std.proofs.Math.Seq.{paste}
use Rattle.rules.specs.Layout.{place_length, most_records}
use Rattle.rules.specs.Limits.{largest_measure, largest_advance}
use Rattle.rules.specs.Records.{records}
use Rattle.rules.specs.Groups.{units}
use Rattle.rules.specs.Gaps.{Gap}
use Rattle.rules.specs.Adjustment.{Amounts, placed}
use Rattle.rules.specs.Gaps.{plus, no_gaps}
use Rattle.rules.specs.Sheet.{places_of}
use Rattle.rules.specs.Structs.{gap_from}
use Rattle.rules.specs.Packed.{Packs, AtMost}
use Rattle.rules.proofs.Packed.{plus_packs}
use Rattle.rules.proofs.WordCounts.{counts_units, length_placed}
use Rattle.rules.proofs.RecordWords.{length_records}
use Rattle.compose.specs.Limits.{most_gaps}
use Rattle.compose.specs.Paragraph.{record_count, units_from}
use Rattle.compose.specs.Lines.{line_at}
use Rattle.compose.specs.Metrics.{RecordMetrics, metrics_of, MetricsAt}
use Rattle.compose.specs.Rates.{amounts_from, PartOf, place_by, Placeable}
use Rattle.compose.specs.Places.{LineToPlace, line_places}
use Rattle.compose.specs.declared.adjustment.Adjustment.{Adjustment}
use Rattle.compose.proofs.GapSums.{nothing_plus, at_most_more}
use Rattle.compose.proofs.PlaceAt.{place_first, place_limit}
use Rattle.compose.proofs.HeldMetrics.{length_metrics_of}
use Rattle.compose.proofs.JointAfter.{bit_small}
use Rattle.compose.proofs.MetricsPlaces.{Places, places_none, places_more, places_of_line}
use Rattle.compose.proofs.Pastes.{Pasting, paste_start, paste_more}
use Rattle.compose.specs.declared.metrics.Metrics.{Metrics}

-- the records before record k are placed, and xs are the places to come. Where they stand solid the units before
-- record k end at `solid`; the gaps before it add up to `sums`
pub record MetricsToPlace (ws : List ℕ) (ms : Metrics) (i j k line x : ℕ) (a : Adjustment) (solid : ℕ) (sums : Gap)
    (places₀ places : List ℕ) : Type 0 where
  pub xs : List ℕ
  pub metrics : Places ms (amounts_from a.amounts) (gap_from a.capacities) k solid sums xs
  pub low : i ≤ k
  pub ends : k + length xs ≡ j
  pub limit : AtMost k sums
  pub packs : Packs sums
  pub solid_limit : solid ≤ largest_measure + largest_advance * k
  pub pasting :
      Pasting places₀ (place_length * i) (line_places ws i j line x a) (place_length * (k - i)) (places_of line xs)
      places

-- the metrics of the first of some records
record FirstMetrics (ms : Metrics) (e : Amounts) (c : Gap) (k solid : ℕ) (s : Gap) (xs : List ℕ) : Type 0 where
  pub metrics_here : RecordMetrics
  pub later : List ℕ
  pub is : xs ≡ (place_by e c solid s + metrics_here.offset) ∷ later
  pub here : MetricsAt metrics_here ms k
  pub sums : AtMost k s → AtMost most_gaps (plus s metrics_here.gap)
  pub part : PartOf s c
  pub metrics : Places ms e c (k + 1) (solid + metrics_here.advance) (plus s metrics_here.gap) later

first_metrics : {ms : Metrics} {e : Amounts} {c : Gap} {k solid : ℕ} {s : Gap} {xs : List ℕ} →
    Places ms e c k solid s xs → 0 < length xs → FirstMetrics ms e c k solid s xs
first_metrics places_none h = let z : ⊥ = omega arith in absurd z
first_metrics (places_more here sums part metrics) h =
    record { metrics_here = _; later = _; is = refl; here = here; sums = sums; part = part; metrics = metrics }

metrics_few : (ws : List ℕ) (i : ℕ) → i ≤ record_count ws → record_count ws ≤ most_records →
    i + length (metrics_of (units_from ws i)) ≤ most_records
unfolding units_from
metrics_few ws i h n =
    let rs = records ws i (record_count ws - i) in
    omega (arith, length_metrics_of (units rs), counts_units rs, length_records ws i (record_count ws - i))

abbrev es : Adjustment → Amounts
es a = amounts_from a.amounts

abbrev cs : Adjustment → Gap
cs a = gap_from a.capacities

module _ {ws : List ℕ} {ms : Metrics} {places₀ : List ℕ} {i j line x : ℕ} {a : Adjustment}
    (few : record_count ws ≤ most_records) (p : LineToPlace ws ms i j x a places₀) where
  pub metrics_start : MetricsToPlace ws ms i j i line x a x no_gaps places₀ places₀
  metrics_start =
      let l = line_at ws i j in
      let z : place_length * (i - i) ≡ 0 = omega arith in
      record {
        xs = placed (es a) (cs a) no_gaps (place_by (es a) (cs a) x no_gaps) l.first l.rest;
        metrics =
            places_of_line no_gaps l.first l.rest (units_from ws j) a.bounds (omega arith)
            (nothing_plus _ ∙ sym p.gaps)
            (rw p.joins_up (metrics_few ws i (omega (arith, p.within, p.ends)) few))
            (rw p.joins_up p.metrics);
        low = omega arith;
        ends = omega (
          arith,
          length_placed (es a) (cs a) no_gaps (place_by (es a) (cs a) x no_gaps) l.first l.rest,
          p.ends,
        );
        limit = omega arith;
        packs = omega arith;
        solid_limit = omega (arith, p.start);
        pasting = rw (z, place_first (es a) (cs a) x) paste_start;
      }

  module _ {places : List ℕ} {k solid : ℕ} {sums : Gap}
      (q : MetricsToPlace ws ms i j k line x a solid sums places₀ places) where
    -- record k
    module _ (h : k < j) where
      turn : FirstMetrics ms (es a) (cs a) k solid sums q.xs
      turn = first_metrics q.metrics (omega (arith, q.ends))

      pub turn_placeable : Placeable (cs a) solid sums
      turn_placeable = search (turn, few, arith)

      pub turn_place : (y : ℕ) → y ≡ place_by (es a) (cs a) solid sums → y + get_or ms.offsets k 0 < 2 ^ 32
      turn_place y h = omega (arith, place_limit a.bounds turn_placeable, turn.here.offset, turn.here.offset_limit)

      advance_is : get_or ms.advances k 0 / 2 ≡ turn.metrics_here.advance
      advance_is = omega (arith, turn.here.advance, bit_small turn.metrics_here.forbidden)

      pub turn_sums : AtMost most_gaps (plus sums (get_or ms.gaps k no_gaps))
      turn_sums = rw turn.here.gap (turn.sums q.limit)

      pub metrics_more : {places₁ : List ℕ} {sums₁ : Gap} (x₁ : ℕ) → x₁ ≡ place_by (es a) (cs a) solid sums →
          sums₁ ≡ plus sums (get_or ms.gaps k no_gaps) →
          places₁ ≡ paste places (place_length * k) ((x₁ + get_or ms.offsets k 0) ∷ line ∷ []) place_length →
          MetricsToPlace ws ms i j (k + 1) line x a (solid + get_or ms.advances k 0 / 2) sums₁ places₀ places₁
      unfolding places_of
      metrics_more x₁ f b d =
          let t = turn in
          record {
            xs = t.later;
            metrics = rw (advance_is, b, t.here.gap) t.metrics;
            low = omega (arith, q.low);
            ends = omega (arith, q.ends, ap length t.is);
            limit = rw (b, t.here.gap) (at_most_more q.limit t.here.gap_limit (omega arith));
            packs = rw (b, t.here.gap) (plus_packs sums t.metrics_here.gap q.packs t.here.packs);
            solid_limit = omega (arith, q.solid_limit, advance_is, t.here.advance_limit);
            pasting =
                paste_more {m = place_length * (k - i)} ((x₁ + get_or ms.offsets k 0) ∷ line ∷ []) place_length
                (place_length * k)
                (rw (f, t.here.offset) (rw t.is at q.pasting)) (omega (arith, q, p)) d;
          }
