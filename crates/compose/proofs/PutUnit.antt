-- The metrics of a unit, as `put_unit` writes them. Assumes nothing.
use Rattle.std.proofs.Common.{◌≡◌, refl, ap, sym, ◌∙◌, ℕ, ◌+◌, ◌*◌, ◌-◌, ◌≤◌, ◌<◌, arith, add-zero, Bool, true, List}
use Rattle.std.proofs.Common.{◌∷◌, ◌++◌, inl, inr}
use Rattle.rules.specs.Limits.{largest_advance}
use Rattle.rules.specs.Records.{Rec, rec_at}
use Rattle.rules.specs.Groups.{TextUnit, count, ruby_total, base_offset}
use Rattle.rules.specs.Groups.{group_advance, advance}
use Rattle.rules.specs.Bounds.{OffsetBounds}
use Rattle.rules.specs.Gaps.{Gap, no_gaps}
use Rattle.rules.proofs.Bounds.{ruby_total_small, shift_small}
use Rattle.std.proofs.lemmas.Bool.{cases_lt}
use Rattle.rules.proofs.GapWords.{GapBounds, gap_bounds}
use Rattle.compose.specs.Limits.{largest_own_advance, largest_offset}
use Rattle.compose.specs.Paragraph.{record_count, units_from, unit_at}
use Rattle.compose.specs.Metrics.{RecordMetrics, inner, outer, unit_metrics, metrics_of, bit, MetricsAre, Stored, Held}
use Rattle.compose.specs.Metrics.{held_more, MetricsFrom}
use Rattle.compose.specs.Scan.{UnitToFill, MetricsBelow, UnitStored}
use Rattle.compose.proofs.UnitsFrom.{from_end, unit_step}
use Rattle.compose.proofs.Limits.{record_limits, side_limits, unit_advance}
use Rattle.compose.proofs.PutMetrics.{Rooms, metrics_below, metrics_stored, below_stored, held_kept, rooms_kept}
use Rattle.compose.proofs.UnitMetrics.{offset_at, offsets_from, offsets_all, offsets_more, offsets_end}
use Rattle.compose.proofs.UnitMetrics.{inner_is, outer_is, last_gap}
use Rattle.compose.proofs.MetricsBelow.{below_refl, below_trans, below_less}
use Rattle.compose.specs.declared.metrics.Metrics.{Metrics}

-- the unit's metrics from record k on, and those after the unit
abbrev metrics_left : List ℕ → ℕ → ℕ → ℕ → ℕ → List RecordMetrics
metrics_left ws first end k solid =
    unit_metrics (unit_at ws first) (units_from ws end) (offsets_from ws first k solid)
    ++ metrics_of (units_from ws end)

-- the metrics of k records are written, and those of the last are not: metrics that have these and what is left
-- hold all. `solid` is what these records take
pub record UnitFilling (ws : List ℕ) (first end k solid : ℕ) (ms₀ ms : Metrics) : Type 0 where
  pub inside : first + k < end
  pub all : {ms' : Metrics} → MetricsBelow (first + k) ms ms' →
      Held ms' (first + k) (metrics_left ws first end k solid) → MetricsFrom ws ms' first
  pub metrics : MetricsFrom ws ms end
  pub below : MetricsBelow first ms₀ ms
  pub limit : solid ≤ largest_own_advance * k
  pub rooms : Rooms ms

module _ {ws : List ℕ} {first end base : ℕ} {gap : Gap} {forbidden : Bool} {ms₀ : Metrics}
    (t : UnitToFill ws first end base gap forbidden ms₀) where
  abbrev u : TextUnit
  u = unit_at ws first

  pub fill_start : Rooms ms₀ → UnitFilling ws first end 0 0 ms₀ ms₀
  unfolding metrics_of
  fill_start rooms =
      record {
        inside = omega arith;
        all = λ b h. rw left (rw add-zero at h);
        metrics = t.metrics;
        below = below_refl first ms₀;
        limit = omega arith;
        rooms = rooms;
      }
    where
      left : metrics_of (units_from ws first) ≡ metrics_left ws first end 0 0
      left =
          let h : first < record_count ws = omega arith in
          rw ((unit_step ws first h).rest, t.unit.ends, offsets_all ws first h)

  -- the bounds of the gap after it
  gap_limits : GapBounds (outer u (units_from ws end) 0).gap
  gap_limits =
      let f = t.unit.fine in
      let h : first < record_count ws = omega arith in
      elim (cases_lt end (record_count ws)) [
        | inl l ↦
            let v = unit_step ws end l in
            rw (v.rest, (unit_step ws first h).first, v.first)
            (gap_bounds _ _ (side_limits ws first f first (omega arith) h) (side_limits ws first f end (omega arith) l))
        | inr l ↦
            rw (from_end ws end l)
            (omega arith)
      ]

  pub solid_limit : {ms : Metrics} {solid k : ℕ} → UnitFilling ws first end k solid ms₀ ms →
      {q : Rec} → q ≡ rec_at ws (first + k) → solid + q.advance ≤ largest_advance
  solid_limit {k = k} f w =
      let b = record_limits ws first t.unit.fine (first + k) (omega arith) (omega arith) in
      rw w (omega arith)

  -- r is the unit's first record, as the program holds it
  module _ {r : Rec} (e : r ≡ rec_at ws first) where
    advance_is : group_advance base r.ruby r.size ≡ advance u
    unfolding advance
    advance_is =
        ap (λ p. group_advance base p.ruby p.size) (e ∙ sym (unit_step ws first (omega arith)).first)
        ∙ ap (λ x. group_advance x u.first.ruby u.first.size) t.unit.base_is

    pub advance_limit : {w : ℕ} → w ≡ group_advance base r.ruby r.size → w ≤ largest_advance
    advance_limit v = rw (v, advance_is) (unit_advance t.unit)

    module _ {ms : Metrics} {solid k : ℕ} (f : UnitFilling ws first end k solid ms₀ ms) where
      pub offset_bounds : OffsetBounds r.ruby r.size (end - first) k solid
      offset_bounds =
          let b = record_limits ws first t.unit.fine first (omega arith) (omega arith) in
          record {
            characters = rw e b.ruby;
            size = rw e b.size;
            items = omega arith;
            item = omega arith;
            offset = omega arith;
          }

      module _ {o : ℕ} (g : o ≡ base_offset base r.ruby r.size (end - first) k solid) where
        offset_is : o ≡ offset_at ws first k solid
        offset_is = let n : end - first ≡ count u = omega arith in g ∙ rw (t.unit.base_is, n, e)

        offset_limit : o ≤ largest_offset
        unfolding base_offset
        offset_limit =
            let b = offset_bounds in
            let d = ruby_total r.ruby r.size - base in
            let small = ruby_total_small r.ruby r.size b.characters b.size in
            omega (arith, shift_small d (end - first) k b.item)

        -- the metrics of record k are stored, which is not the last
        pub fill_more : {ms' : Metrics} {q : Rec} → k + 1 < end - first →
            Stored (first + k) 0 true no_gaps o ms ms' → q ≡ rec_at ws (first + k) →
            UnitFilling ws first end (k + 1) (solid + q.advance) ms₀ ms'
        unfolding unit_metrics
        fill_more {q = q} h s w =
            let b = record_limits ws first t.unit.fine (first + k) (omega arith) (omega arith) in
            let m : first + (k + 1) ≡ first + k + 1 = omega arith in
            rw w
            (record {
              inside = omega arith;
              all =
                  λ c h.
                  f.all
                  (below_trans {n = first + k} (below_stored s (omega arith)) (below_less c (omega arith))
                  (omega arith))
                  (rw left
                  (held_more
                  (metrics_below c (omega arith)
                  (metrics_stored s (inner_is offset_limit) f.rooms (omega arith)))
                  (λ z. refl) (rw m at h)));
              metrics = held_kept s (omega arith) f.metrics;
              below = below_trans f.below (below_stored s (omega arith)) (omega arith);
              limit = omega arith;
              rooms = rooms_kept s f.rooms;
            })
          where
            left : metrics_left ws first end k solid
                ≡ inner o ∷ metrics_left ws first end (k + 1) (solid + (rec_at ws (first + k)).advance)
            left =
                rw (
                  offsets_more ws first k solid (omega arith),
                  offsets_more ws first (k + 1) (solid + (rec_at ws (first + k)).advance) (omega arith),
                  offset_is,
                )

        -- those of the last record are stored
        module _ (h : end - first ≤ k + 1) {w : ℕ} (v : w ≡ group_advance base r.ruby r.size) where
          last_metrics : MetricsAre (outer u (units_from ws end) o) (2 * w + bit forbidden) gap o
          last_metrics =
              rw (v, advance_is)
              (outer_is u (units_from ws end) t.joint.gap_is t.joint.forbidden_is (unit_advance t.unit)
              gap_limits offset_limit)

          last_left : metrics_left ws first end k solid ≡ outer u (units_from ws end) o ∷ metrics_of (units_from ws end)
          unfolding unit_metrics
          last_left =
              rw (offsets_more ws first k solid (omega arith), offsets_end ws first (k + 1) _ (omega arith), offset_is)

          pub fill_done : {ms' : Metrics} → Stored (end - 1) w forbidden gap o ms ms' →
              UnitStored ws first ms₀ ms'
          fill_done s =
              let n : end - 1 ≡ first + k = omega arith in
              let m : end - 1 + 1 ≡ end = omega arith in
              record {
                metrics =
                    f.all (below_stored s (omega arith))
                    (rw (last_left, ← n)
                    (held_more (metrics_stored s last_metrics f.rooms (omega arith))
                    (last_gap u (units_from ws end) o) (rw m (held_kept s (omega arith) f.metrics))));
                below = below_trans f.below (below_stored s (omega arith)) (omega arith);
              }
