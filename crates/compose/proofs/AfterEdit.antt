-- The metrics after an edit are those of the new list: what stands from a unit's first record on does not hang on what
-- stands before it. Assumes nothing.
use Rattle.std.proofs.Common.{◌≡◌, refl, ap, ◌∙◌, ℕ, ◌+◌, ◌-◌, ◌*◌, ◌≤◌, ◌<◌, arith, false, List, [], ◌++◌}
use Rattle.std.proofs.Common.{append-nil, get_or}
use Rattle.rules.specs.Layout.{record_length, most_records}
use Rattle.rules.specs.Gaps.{no_gaps}
use Rattle.rules.specs.Records.{rec_at, records}
use Rattle.rules.specs.Groups.{same_group}
use Rattle.rules.proofs.All.{all_take, all_drop}
use Rattle.rules.proofs.RecordWords.{take_records, records_alike}
use Rattle.compose.specs.Paragraph.{record_count, units_from, head_or}
use Rattle.compose.specs.Metrics.{Held, held_none, metrics_of}
use Rattle.compose.specs.Scan.{FilledFrom}
use Rattle.compose.specs.Composed.{Kept}
use Rattle.compose.specs.Kept.{KeptFrom}
use Rattle.compose.proofs.Checked.{checked_fine}
use Rattle.compose.proofs.UnitsFrom.{records_left}
use Rattle.compose.proofs.HeldMetrics.{held_joined, length_metrics}
use Rattle.compose.proofs.RecordsApart.{faults_apart, metrics_from}
use Rattle.compose.specs.declared.metrics.Metrics.{Metrics}

-- lists that have records in common -----------------------------------------------------------------------------

-- the words of n records of ws', from record `target` on, are those of ws from record `source` on
abbrev pub Shared : List ℕ → List ℕ → ℕ → ℕ → ℕ → Type 0
Shared ws ws' source target n =
    (k : ℕ) → k < record_length * n →
    get_or ws' (record_length * target + k) 0 ≡ get_or ws (record_length * source + k) 0

module _ (ws ws' : List ℕ) (source target n : ℕ) (same : Shared ws ws' source target n) where
  pub records_same : (i j n' : ℕ) → target ≤ i → i + n' ≤ target + n → i + source ≡ j + target →
      records ws' i n' ≡ records ws j n'
  records_same i j n' l h e =
      records_alike ws' ws i j n'
      (λ k g.
      let a : record_length * target + (record_length * (i - target) + k) ≡ record_length * i + k = omega arith in
      let b : record_length * source + (record_length * (i - target) + k) ≡ record_length * j + k = omega arith in
      rw (a, b) at (same (record_length * (i - target) + k) (omega arith)))

  pub record_same : (i j : ℕ) → target ≤ i → i < target + n → i + source ≡ j + target → rec_at ws' i ≡ rec_at ws j
  unfolding records
  record_same i j l h e = ap (head_or (rec_at ws' i)) (records_same i j 1 l (omega arith) e)

-- a new list ws' that has the first p records of an old list ws, and from record `target` on those that ws has from
-- record `source` on
pub record Edit (ws ws' : List ℕ) (p source target : ℕ) : Type 0 where
  pub few : record_count ws' ≤ most_records
  pub before : Shared ws ws' 0 0 p
  pub after : Shared ws ws' source target (record_count ws - source)
  pub count_after : record_count ws' ≡ target + (record_count ws - source)
  pub old : p ≤ record_count ws
  pub new : p ≤ target

module _ {ws ws' : List ℕ} {ms ms' : Metrics} {p source target kept : ℕ} (k : Kept ws ms)
    (v : Edit ws ws' p source target)
    (q : KeptFrom ws source target ms ms' kept) where
  abbrev a : ℕ
  a = q.first

  left : record_count ws' - kept ≡ record_count ws - a
  left = omega arith

  same : records ws' kept (record_count ws' - kept) ≡ records ws a (record_count ws - a)
  same =
      rw left
      (records_same ws ws' source target (record_count ws - source) v.after kept a (record_count ws - a) (omega arith)
      (omega arith) (omega arith))

  -- a unit starts with record a in the old list, and with record `kept` in the new one
  old_apart : 0 < a → a < record_count ws → same_group (rec_at ws (a - 1)) (rec_at ws a) ≡ false
  old_apart h l = q.unit.apart l (rec_at ws (a - 1)) (λ m. refl)

  new_apart : 0 < kept → kept < record_count ws' → same_group (rec_at ws' (kept - 1)) (rec_at ws' kept) ≡ false
  new_apart h l =
      let e = record_same ws ws' source target (record_count ws - source) v.after in
      (λ t. same_group (rec_at ws' (kept - 1)) (e kept a (omega arith) (omega arith) (omega arith) t))
      ∙ q.unit.apart (omega (arith, left)) (rec_at ws' (kept - 1))
      (λ m. e (kept - 1) (a - 1) (omega arith) (omega arith) (omega arith))

  pub metrics_kept : FilledFrom ws' p kept ms'
  unfolding units_from
  metrics_kept =
      let u = q.unit in
      let m = q.moved in
      let front = records_same ws ws' 0 0 p v.before 0 0 p (omega arith) (omega arith) (omega arith) in
      let drops = records_left ws a u.within in
      let qs = metrics_of (units_from ws a) in
      let held : Held ms a (qs ++ []) = rw append-nil (metrics_from ws a u.within old_apart k.metrics) in
      let moved : Held ms' kept (qs ++ []) =
      held_joined kept qs [] [] held
      (λ i l t.
      let h : i < record_count ws - a = omega (arith, length_metrics ws a) in
      (m.advances.moved i 0 h t, m.gaps.moved i no_gaps h t, m.offsets.moved i 0 h t))
      (λ e. e)
      held_none in
      record {
        scanning =
            record {
              few = v.few;
              within = omega arith;
              known_fine =
                  rw (
                    take_records ws' 0 (record_count ws') p (omega arith),
                    front,
                    ← take_records ws 0 (record_count ws) p v.old,
                  )
                  (all_take (checked_fine k.checked) p);
              sound = rw (same, ← drops) (all_drop (checked_fine k.checked) a);
              grouped = rw same ((faults_apart ws a u.within old_apart).0 k.checked.grouped).1;
              apart = new_apart;
            };
        metrics = rw same (rw append-nil at moved);
      }
