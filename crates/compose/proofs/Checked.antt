-- A checked paragraph by its records: all are fine, and they keep the rules of groups. Assumes nothing.
use Rattle.std.proofs.Common.{◌≡◌, ℕ, ◌≤◌, true, List, None}
use Rattle.rules.specs.Layout.{most_records}
use Rattle.rules.specs.Records.{Rec, rec_ok, bad_record}
use Rattle.rules.specs.Listed.{is_listed, not_listed}
use Rattle.rules.specs.Groups.{group_fault}
use Rattle.rules.specs.Meanings.{All, all_none, all_more}
use Rattle.rules.proofs.FirstFailing.{none_fails, all_pass}
use Rattle.rules.proofs.Listed.{each}
use Rattle.compose.specs.Paragraph.{record_count, paragraph, Checked}
use Rattle.compose.specs.Scan.{Fine}

pub checked_fine : {ws : List ℕ} → Checked ws → All Fine (paragraph ws)
unfolding bad_record not_listed
checked_fine {ws} c =
    both (none_fails rec_ok 0 (paragraph ws) c.sound) (none_fails is_listed 0 (paragraph ws) c.listed)
  where
    both : {rs : List Rec} → All (λ r. rec_ok r ≡ true) rs → All (λ r. is_listed r ≡ true) rs → All Fine rs
    both all_none all_none = all_none
    both (all_more p ps) (all_more q qs) = all_more (record { sound = p; listed = q }) (both ps qs)

pub fine_checked : {ws : List ℕ} → record_count ws ≤ most_records → All Fine (paragraph ws) →
    group_fault (paragraph ws) ≡ None →
    Checked ws
unfolding bad_record not_listed
fine_checked few fine g =
    record {
      few = few;
      sound = all_pass rec_ok 0 (each (λ r f. f.sound) fine);
      listed = all_pass is_listed 0 (each (λ r f. f.listed) fine);
      grouped = g;
    }
