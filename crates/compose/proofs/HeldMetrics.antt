-- The metrics of some units and of those after them, as they are held. Assumes nothing.
use Rattle.std.proofs.Common.{◌≡◌, refl, ap, sym, subst, ◌∙◌, ℕ, suc, ◌+◌, ◌-◌, ◌<◌, arith, add-zero, List, [], ◌∷◌}
use Rattle.std.proofs.Common.{◌++◌, append_assoc, length, length-append, get_or}
use Rattle.rules.specs.Groups.{TextUnit, counts, base_offsets}
use Rattle.rules.specs.Gaps.{Gap, no_gaps}
use Rattle.rules.specs.Records.{records}
use Rattle.rules.proofs.WordCounts.{length_base_offsets, counts_units}
use Rattle.rules.proofs.Decisions.{nil_cons}
use Rattle.rules.proofs.RecordWords.{length_records}
use Rattle.compose.specs.Metrics.{RecordMetrics, unit_metrics, metrics_of, Held, held_more, MetricsAre}
use Rattle.compose.specs.Paragraph.{record_count, units_from}
use Rattle.compose.specs.declared.metrics.Metrics.{Metrics}

-- the metrics of units before others
unfoldable pub metrics_before : List TextUnit → List TextUnit → List RecordMetrics
metrics_before [] vs = []
metrics_before (u ∷ us) vs = unit_metrics u (us ++ vs) (base_offsets u) ++ metrics_before us vs

pub metrics_split : (us vs : List TextUnit) → metrics_of (us ++ vs) ≡ metrics_before us vs ++ metrics_of vs
unfolding metrics_before metrics_of
metrics_split [] vs = refl
metrics_split (u ∷ us) vs =
    let ps = unit_metrics u (us ++ vs) (base_offsets u) in
    ap (λ qs. ps ++ qs) (metrics_split us vs) ∙ sym (append_assoc ps (metrics_before us vs) (metrics_of vs))

-- one for each record ----------------------------------------------------------------------------------------------

length_unit_metrics : (u : TextUnit) (us : List TextUnit) (os : List ℕ) → length (unit_metrics u us os) ≡ length os
unfolding unit_metrics
length_unit_metrics u us [] = refl
length_unit_metrics u us (o ∷ []) = refl
length_unit_metrics u us (o ∷ p ∷ os) = ap suc (length_unit_metrics u us (p ∷ os))

pub length_metrics_before : (us vs : List TextUnit) → length (metrics_before us vs) ≡ counts us
unfolding metrics_before counts
length_metrics_before [] vs = refl
length_metrics_before (u ∷ us) vs =
    let ps = unit_metrics u (us ++ vs) (base_offsets u) in
    omega (
      arith,
      length-append ps (metrics_before us vs),
      length_unit_metrics u (us ++ vs) (base_offsets u),
      length_base_offsets u,
      length_metrics_before us vs,
    )

pub length_metrics_of : (us : List TextUnit) → length (metrics_of us) ≡ counts us
unfolding metrics_of counts
length_metrics_of [] = refl
length_metrics_of (u ∷ us) =
    let ps = unit_metrics u us (base_offsets u) in
    omega (
      arith,
      length-append ps (metrics_of us),
      length_unit_metrics u us (base_offsets u),
      length_base_offsets u,
      length_metrics_of us,
    )

pub length_metrics : (ws : List ℕ) (a : ℕ) → length (metrics_of (units_from ws a)) ≡ record_count ws - a
unfolding units_from
length_metrics ws a =
    length_metrics_of (units_from ws a) ∙ counts_units (records ws a (record_count ws - a))
    ∙ length_records ws a (record_count ws - a)

-- what is held past some metrics ----------------------------------------------------------------------------------

held_past : {ms : Metrics} (i : ℕ) (ps qs : List RecordMetrics) → Held ms i (ps ++ qs) →
    Held ms (i + length ps) qs
held_past {ms} i [] qs h = subst (λ k. Held ms k qs) (sym (add-zero i)) h
held_past {ms} i (p ∷ ps) qs (held_more r n h) =
    let e : i + 1 + length ps ≡ i + length (p ∷ ps) = omega arith in
    subst (λ k. Held ms k qs) e (held_past (i + 1) ps qs h)

-- past some units
pub held_after : {ms : Metrics} {i : ℕ} (us vs : List TextUnit) → Held ms i (metrics_of (us ++ vs)) →
    Held ms (i + counts us) (metrics_of vs)
held_after {ms} {i} us vs h =
    subst (λ n. Held ms (i + n) (metrics_of vs)) (length_metrics_before us vs)
    (held_past i (metrics_before us vs) (metrics_of vs) (subst (λ qs. Held ms i qs) (metrics_split us vs) h))

-- metrics held elsewhere -------------------------------------------------------------------------------------------

abbrev pub metrics_at : Metrics → ℕ → ℕ × Gap × ℕ
metrics_at ms i = (get_or ms.advances i 0, get_or ms.gaps i no_gaps, get_or ms.offsets i 0)

-- metrics that are held elsewhere, before some that follow there
pub held_joined : {ms ms' : Metrics} {i : ℕ} (j : ℕ) (ps qs qs' : List RecordMetrics) →
    Held ms i (ps ++ qs) →
    ((k : ℕ) → k < length ps → metrics_at ms' (j + k) ≡ metrics_at ms (i + k)) → (qs' ≡ [] → qs ≡ []) →
    Held ms' (j + length ps) qs' → Held ms' j (ps ++ qs')
held_joined {ms' = ms'} j [] qs qs' h f l t = subst (λ n. Held ms' n qs') (add-zero j) t
held_joined {ms} {ms'} {i} j (p ∷ ps) qs qs' (held_more w z h) f l t =
    let a : j + 1 + length ps ≡ j + length (p ∷ ps) = omega arith in
    held_more (subst (λ (r : ℕ × Gap × ℕ). MetricsAre p r.0 r.1 r.2) (sym first) w) (λ e. z (none ps e))
    (held_joined {i = i + 1} (j + 1) ps qs qs' h later l (rw (← a) at t))
  where
    first : metrics_at ms' j ≡ metrics_at ms i
    first = simp add-zero at (f 0 (omega arith))

    later : (k : ℕ) → k < length ps → metrics_at ms' (j + 1 + k) ≡ metrics_at ms (i + 1 + k)
    later k n =
        let b : j + (k + 1) ≡ j + 1 + k = omega arith in
        let c : i + (k + 1) ≡ i + 1 + k = omega arith in
        rw (b, c) at (f (k + 1) (omega arith))

    none : (ps : List RecordMetrics) → ps ++ qs' ≡ [] → ps ++ qs ≡ []
    none [] e = l e
    none (p ∷ ps) e = absurd (nil_cons (sym e))
