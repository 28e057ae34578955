-- Where a paragraph's records are cut between groups, so are its units, its metrics and what answer 9 says of them.
-- Assumes nothing.
use Rattle.std.proofs.Common.{◌≡◌, refl, ap, sym, ◌∙◌, ℕ, zero, suc, ◌+◌, ◌-◌, ◌≤◌, ◌<◌, arith, add-zero, zero-add}
use Rattle.std.proofs.Common.{false, List, ◌++◌, append-nil, ◌↔◌, None, take-append-drop}
use Rattle.std.proofs.Math.Nat.{sub-zero}
use Rattle.rules.specs.Basics.{cut}
use Rattle.rules.specs.Records.{Rec, rec_at, records}
use Rattle.rules.specs.Groups.{same_group, group_fault, units, counts}
use Rattle.rules.specs.Meanings.{last_of}
use Rattle.rules.proofs.Cuts.{cut_split}
use Rattle.rules.proofs.WordCounts.{counts_units}
use Rattle.rules.proofs.RecordWords.{length_records, take_records}
use Rattle.compose.specs.Paragraph.{record_count, paragraph, units_from}
use Rattle.compose.specs.Metrics.{MetricsFrom}
use Rattle.compose.proofs.GroupFaults.{fault_meet, Meet, meet_first, meet_last, meet_apart}
use Rattle.compose.proofs.UnitsFrom.{records_left}
use Rattle.compose.proofs.HeldMetrics.{held_after}
use Rattle.compose.specs.declared.metrics.Metrics.{Metrics}

last_record : (ws : List ℕ) (i n : ℕ) → last_of (rec_at ws i) (records ws (suc i) n) ≡ rec_at ws (i + n)
unfolding records
last_record ws i zero = rw add-zero
last_record ws i (suc n) = let e : suc i + n ≡ i + suc n = omega arith in last_record ws (suc i) n ∙ rw e

units_meet : {ps qs : List Rec} → Meet ps qs → units (ps ++ qs) ≡ units ps ++ units qs
unfolding units cut
units_meet meet_first = refl
units_meet (meet_last {rs}) = rw (append-nil, append-nil)
units_meet (meet_apart {p} {ps} {q} {qs} e) = cut_split same_group p ps q qs e

meet : (ws : List ℕ) (a n : ℕ) → (0 < a → 0 < n → same_group (rec_at ws (a - 1)) (rec_at ws a) ≡ false) →
    Meet (records ws 0 a) (records ws a n)
unfolding records
meet ws zero n e = meet_first
meet ws (suc a) zero e = meet_last
meet ws (suc a) (suc n) e =
    let b : suc a - 1 ≡ a = omega arith in
    let f : same_group (last_of (rec_at ws 0) (records ws 1 a)) (rec_at ws (suc a)) ≡ false =
    rw (last_record, zero-add) (rw b at (e (omega arith) (omega arith))) in
    meet_apart f

module _ (ws : List ℕ) (a : ℕ) (h : a ≤ record_count ws)
    (e : 0 < a → a < record_count ws → same_group (rec_at ws (a - 1)) (rec_at ws a) ≡ false) where
  pub records_apart : records ws 0 a ++ records ws a (record_count ws - a) ≡ paragraph ws
  records_apart =
      (λ t. sym (take_records ws 0 (record_count ws) a h) t ++ sym (records_left ws a h) t)
      ∙ take-append-drop a (paragraph ws)

  records_meet : Meet (records ws 0 a) (records ws a (record_count ws - a))
  records_meet = meet ws a (record_count ws - a) (λ g l. e g (omega arith))

  pub faults_apart : (group_fault (paragraph ws) ≡ None) ↔
      ((group_fault (records ws 0 a) ≡ None) × (group_fault (records ws a (record_count ws - a)) ≡ None))
  faults_apart = rw (← records_apart) (fault_meet records_meet)

  pub from_apart : units (records ws 0 a) ++ units_from ws a ≡ units_from ws 0
  unfolding units_from
  from_apart = sym (units_meet records_meet) ∙ ap (λ rs. units rs) (rw sub-zero records_apart)

  pub metrics_from : {ms : Metrics} → MetricsFrom ws ms 0 → MetricsFrom ws ms a
  metrics_from r =
      let n : counts (units (records ws 0 a)) ≡ a = counts_units (records ws 0 a) ∙ length_records ws 0 a in
      rw (n, zero-add) at (held_after (units (records ws 0 a)) (units_from ws a) (rw (← from_apart) at r))
