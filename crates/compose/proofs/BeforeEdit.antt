-- The metrics before an edit are those of the new list: a record's hang on its unit and on the side of the next one.
-- Assumes nothing.
use Rattle.std.proofs.Common.{◌≡◌, refl, ap, sym, ◌∙◌, ℕ, ◌+◌, ◌-◌, ◌<◌, arith, zero-add, false, List, [], ◌∷◌, ◌++◌}
use Rattle.std.proofs.Common.{inl, inr, length}
use Rattle.rules.specs.Basics.{alone}
use Rattle.rules.specs.Gaps.{no_gaps}
use Rattle.rules.specs.Records.{rec_at, records}
use Rattle.rules.specs.Groups.{TextUnit, same_group, units, base_offsets}
use Rattle.rules.specs.Meanings.{All}
use Rattle.std.proofs.lemmas.Bool.{cases_lt}
use Rattle.rules.proofs.WordCounts.{counts_units}
use Rattle.rules.proofs.All.{all_take, all_append}
use Rattle.rules.proofs.RecordWords.{length_records, take_records}
use Rattle.compose.specs.Paragraph.{record_count, paragraph, units_from}
use Rattle.compose.specs.Metrics.{inner, outer, unit_metrics, Held, metrics_of, MetricsFrom}
use Rattle.compose.specs.Scan.{Fine, FilledFrom, MetricsBelow, Front}
use Rattle.compose.specs.Composed.{Kept}
use Rattle.compose.specs.Kept.{KeptFrom}
use Rattle.compose.proofs.UnitsFrom.{unit_step}
use Rattle.compose.proofs.HeldMetrics.{metrics_before, metrics_split, length_metrics_before, held_joined}
use Rattle.compose.proofs.HeldMetrics.{length_metrics}
use Rattle.compose.proofs.Checked.{checked_fine, fine_checked}
use Rattle.compose.proofs.MetricsBelow.{below_trans}
use Rattle.compose.proofs.FillMetrics.{front_none}
use Rattle.compose.proofs.RecordsApart.{records_apart, faults_apart, from_apart}
use Rattle.compose.proofs.AfterEdit.{records_same, record_same, Edit}
use Rattle.compose.specs.declared.metrics.Metrics.{Metrics}

-- metrics before a unit -------------------------------------------------------------------------------------------

module _ (v v' : TextUnit) (vs vs' : List TextUnit) (e : v.first ≡ v'.first) where
  -- the metrics of a last record hang on the next unit's first record
  outer_same : (u : TextUnit) (us : List TextUnit) (o : ℕ) → outer u (us ++ v ∷ vs) o ≡ outer u (us ++ v' ∷ vs') o
  outer_same u [] o = ap (λ r. outer u (alone r ∷ []) o) e
  outer_same u (w ∷ us) o = refl

  unit_same : (u : TextUnit) (us : List TextUnit) (ps : List ℕ) →
      unit_metrics u (us ++ v ∷ vs) ps ≡ unit_metrics u (us ++ v' ∷ vs') ps
  unfolding unit_metrics
  unit_same u us [] = refl
  unit_same u us (p ∷ []) = ap (λ q. q ∷ []) (outer_same u us p)
  unit_same u us (p ∷ q ∷ ps) = ap (λ qs. inner p ∷ qs) (unit_same u us (q ∷ ps))

  before_same : (us : List TextUnit) → metrics_before us (v ∷ vs) ≡ metrics_before us (v' ∷ vs')
  unfolding metrics_before
  before_same [] = refl
  before_same (u ∷ us) =
      let e = before_same us in
      λ t. unit_same u us (base_offsets u) t ++ e t

module _ {ws ws' : List ℕ} {ms : Metrics} {p source target : ℕ} (k : Kept ws ms) (v : Edit ws ws' p source target) where
  -- record i is before the edit, and a unit starts with it
  module _ (i : ℕ) {ms' : Metrics} (low : 0 < i) (h : i < p) (r : FilledFrom ws' p i ms')
      (b : MetricsBelow i ms ms') where
    front : records ws' 0 i ≡ records ws 0 i
    front = records_same ws ws' 0 0 p v.before 0 0 i (omega arith) (omega arith) (omega arith)

    record_at : (j : ℕ) → j < p → rec_at ws' j ≡ rec_at ws j
    record_at j l = record_same ws ws' 0 0 p v.before j j (omega arith) (omega arith) (omega arith)

    old_apart : 0 < i → i < record_count ws → same_group (rec_at ws (i - 1)) (rec_at ws i) ≡ false
    old_apart a l =
        (λ t. same_group (sym (record_at (i - 1) (omega arith)) t) (sym (record_at i h) t))
        ∙ r.scanning.apart a (omega arith)

    -- the units before it, and their metrics
    abbrev us : List TextUnit
    us = units (records ws 0 i)

    metrics_same : metrics_before us (units_from ws' i) ≡ metrics_before us (units_from ws i)
    metrics_same =
        let a = unit_step ws' i (omega arith) in
        let c = unit_step ws i (omega arith) in
        ap (metrics_before us) a.rest
        ∙ before_same _ _ _ _ (a.first ∙ record_at i h ∙ sym c.first) us
        ∙ ap (metrics_before us) (sym c.rest)

    all_metrics : MetricsFrom ws' ms' 0
    all_metrics =
        let qs = metrics_before us (units_from ws i) in
        let n : length qs ≡ i =
        length_metrics_before us (units_from ws i) ∙ counts_units (records ws 0 i) ∙ length_records ws 0 i in
        let old : Held ms 0 (qs ++ metrics_of (units_from ws i)) =
        rw (← from_apart ws i (omega arith) old_apart, metrics_split) at k.metrics in
        let new : us ++ units_from ws' i ≡ units_from ws' 0 =
        rw (← front) (from_apart ws' i (omega arith) r.scanning.apart) in
        rw (← new, metrics_split, metrics_same)
        (held_joined 0 qs (metrics_of (units_from ws i)) (metrics_of (units_from ws' i)) old
        (λ j l t.
        let m : 0 + j < i = omega arith in
        (b.advances (0 + j) 0 m t, b.gaps (0 + j) no_gaps m t, b.offsets (0 + j) 0 m t))
        (λ e. absurd (omega (arith, ap (λ qs. length qs) e, length_metrics ws' i)))
        (rw (n, zero-add) r.metrics))

    all_fine : All Fine (paragraph ws')
    all_fine =
        let all = records_apart ws' i (omega arith) r.scanning.apart in
        rw (← all, front, ← take_records ws 0 (record_count ws) i (omega arith))
        (all_append (all_take (checked_fine k.checked) i) r.scanning.sound)

    all_kept : Kept ws' ms'
    all_kept =
        let g = (faults_apart ws i (omega arith) old_apart).0 k.checked.grouped in
        record {
          checked =
              fine_checked r.scanning.few all_fine
              ((faults_apart ws' i (omega arith) r.scanning.apart).1 (rw front g.0, r.scanning.grouped));
          metrics = all_metrics;
        }

  -- the metrics before the place, where those after it are moved
  pub front_kept : {ms' : Metrics} {kept : ℕ} → KeptFrom ws source target ms ms' kept →
      Front ws' p (p - 1) ms'
  front_kept {ms'} q i ms'' h r w =
      let m = q.moved in
      let below : MetricsBelow _ ms ms' =
      record { advances = m.advances.below; gaps = m.gaps.below; offsets = m.offsets.below } in
      elim (cases_lt 0 i) [
        | inl l ↦ all_kept i l (omega arith) r (below_trans below w (omega arith))
        | inr l ↦ front_none ws' p ms' i ms'' (omega arith) r w
      ]
