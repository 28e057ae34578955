-- The metrics of a unit: its records' offsets one after the other, and the words of each. Assumes nothing.
use Rattle.std.proofs.Common.{◌≡◌, refl, ap, sym, ◌∙◌, ℕ, ◌+◌, ◌*◌, ◌≤◌, ◌<◌, suc, ◌-◌, arith, add-zero, Bool, List}
use Rattle.std.proofs.Common.{[], ◌∷◌, ◌++◌, take, take_at}
use Rattle.std.proofs.Math.Nat.{sub-zero}
use Rattle.rules.specs.Limits.{largest_advance}
use Rattle.rules.specs.Groups.{TextUnit, advance, offsets, base_offsets, same_group, units, count, base_total}
use Rattle.rules.specs.Groups.{base_offset}
use Rattle.rules.specs.Gaps.{Gap, no_gaps}
use Rattle.rules.specs.Basics.{whole, joined}
use Rattle.rules.specs.Records.{rec_at, records}
use Rattle.rules.proofs.Decisions.{nil_cons}
use Rattle.rules.proofs.GapWords.{GapBounds}
use Rattle.rules.proofs.Cuts.{cut_joined}
use Rattle.rules.proofs.RecordWords.{take_records}
use Rattle.compose.specs.Limits.{largest_offset}
use Rattle.compose.specs.Metrics.{RecordMetrics, inner, outer, unit_metrics, metrics_of, bit, MetricsAre}
use Rattle.compose.specs.Paragraph.{record_count, units_from, unit_at, next_at}
use Rattle.compose.proofs.UnitsFrom.{unit_step}

-- offsets ----------------------------------------------------------------------------------------------------------

-- a unit's records, by their number
unit_whole : (ws : List ℕ) (a : ℕ) → a < record_count ws → whole (unit_at ws a) ≡ records ws a (count (unit_at ws a))
unfolding units_from units joined
unit_whole ws a h =
    let s = unit_step ws a h in
    let n = count (unit_at ws a) in
    let j : whole (unit_at ws a) ++ joined (units_from ws (next_at ws a)) ≡ records ws a (record_count ws - a) =
    sym (ap (λ ls. joined ls) s.rest) ∙ cut_joined same_group (records ws a (record_count ws - a)) in
    sym (take_at (whole (unit_at ws a)) (joined (units_from ws (next_at ws a))) n refl) ∙ ap (λ rs. take n rs) j
    ∙ take_records ws a (record_count ws - a) n (omega (arith, s.within))

-- the offset of record k of the unit that starts with record a, at a solid offset; and of those from record k on
abbrev pub offset_at : List ℕ → ℕ → ℕ → ℕ → ℕ
offset_at ws a k solid =
    base_offset (base_total (unit_at ws a)) (rec_at ws a).ruby (rec_at ws a).size (count (unit_at ws a)) k solid

pub offsets_from : List ℕ → ℕ → ℕ → ℕ → List ℕ
offsets_from ws a k solid =
    offsets (base_total (unit_at ws a)) (rec_at ws a).ruby (rec_at ws a).size (count (unit_at ws a)) k solid
    (records ws (a + k) (count (unit_at ws a) - k))

pub offsets_all : (ws : List ℕ) (a : ℕ) → a < record_count ws → offsets_from ws a 0 0 ≡ base_offsets (unit_at ws a)
unfolding base_offsets offsets_from
offsets_all ws a h = rw (unit_whole ws a h, (unit_step ws a h).first, add-zero, sub-zero)

pub offsets_more : (ws : List ℕ) (a k solid : ℕ) → k < count (unit_at ws a) →
    offsets_from ws a k solid
    ≡ offset_at ws a k solid ∷ offsets_from ws a (k + 1) (solid + (rec_at ws (a + k)).advance)
unfolding offsets_from records offsets
offsets_more ws a k solid h =
    let n = count (unit_at ws a) in
    let e : n - k ≡ suc (n - (k + 1)) = omega arith in
    let f : suc (a + k) ≡ a + (k + 1) = omega arith in
    let g : suc k ≡ k + 1 = omega arith in
    rw (e, f, g)

pub offsets_end : (ws : List ℕ) (a k solid : ℕ) → count (unit_at ws a) ≤ k → offsets_from ws a k solid ≡ []
unfolding offsets_from records offsets
offsets_end ws a k solid h = let e : count (unit_at ws a) - k ≡ 0 = omega arith in rw e

-- words ------------------------------------------------------------------------------------------------------------

pub inner_is : {o : ℕ} → o ≤ largest_offset → MetricsAre (inner o) 1 no_gaps o
inner_is h =
    record {
      advance = refl;
      gap = refl;
      offset = refl;
      advance_limit = omega arith;
      gap_limit = omega arith;
      packs = omega arith;
      offset_limit = h;
    }

pub outer_is : (u : TextUnit) (us : List TextUnit) {w : Gap} {o : ℕ} {t : Bool} → w ≡ (outer u us 0).gap →
    t ≡ (outer u us 0).forbidden → advance u ≤ largest_advance → GapBounds (outer u us 0).gap → o ≤ largest_offset →
    MetricsAre (outer u us o) (2 * advance u + bit t) w o
outer_is u us {o = o} p q a b l =
    let e = outer_by u us o in
    rw e (record {
      advance = ap (λ t. 2 * advance u + bit t) q;
      gap = p;
      offset = refl;
      advance_limit = a;
      gap_limit = b.at_most;
      packs = b.packs;
      offset_limit = l;
    })
  where
    outer_by : (u : TextUnit) (us : List TextUnit) (o : ℕ) →
        outer u us o
        ≡ record { advance = advance u; forbidden = (outer u us 0).forbidden; gap = (outer u us 0).gap; offset = o }
    outer_by u [] o = refl
    outer_by u (v ∷ us) o = refl

-- a unit has metrics
some_metrics : (u : TextUnit) (us : List TextUnit) (o : ℕ) (ps : List ℕ) (qs : List RecordMetrics) →
    unit_metrics u us (o ∷ ps) ++ qs ≡ [] → ⊥
unfolding unit_metrics
some_metrics u us o [] qs e = nil_cons (sym e)
some_metrics u us o (p ∷ ps) qs e = nil_cons (sym e)

-- so after the last record no unit follows
pub last_gap : (u : TextUnit) (us : List TextUnit) (o : ℕ) → metrics_of us ≡ [] → (outer u us o).gap ≡ no_gaps
unfolding metrics_of base_offsets offsets
last_gap u [] o e = refl
last_gap u (v ∷ us) o e = absurd (some_metrics v us _ _ (metrics_of us) e)
