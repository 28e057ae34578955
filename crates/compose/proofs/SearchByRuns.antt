-- The search for the longest line, run by run: what it remembers is the line that `breaking` takes. Assumes nothing.
use Rattle.std.proofs.Common.{◌≡◌, ap, sym, ◌∙◌, ℕ, ◌+◌, ◌≤◌, arith, add_assoc, cond, List, [], ◌∷◌, ◌++◌}
use Rattle.std.proofs.Common.{append_assoc, leb, le-leb}
use Rattle.rules.specs.Basics.{Run, whole, extended, joined}
use Rattle.rules.specs.Groups.{TextUnit, counts}
use Rattle.rules.specs.Gaps.{Gap}
use Rattle.rules.specs.Breaks.{forbidden_between, gap, width, runs, wide_run, filled, breaking}
use Rattle.rules.specs.Gaps.{no_gaps}
use Rattle.rules.specs.Meanings.{last_in}
use Rattle.rules.proofs.Cuts.{last_append, cut_joined, cut_tail}
use Rattle.rules.proofs.NoBreaking.{counts_append}
use Rattle.rules.proofs.Widths.{width_extended}
use Rattle.compose.proofs.Sums.{Sums, no_units, spaced, onto, reach, units_append, reach_width}

-- the search, where units of the sums s come next: t where they fit, else what is remembered
abbrev pub fitted : ℕ → Sums → Sums → Sums → Sums
fitted m s t b = cond (leb (reach s) m) t b

-- the gap from a unit to the runs after it
abbrev pub gap_to : TextUnit → List (Run TextUnit) → Gap
gap_to u [] = no_gaps
gap_to u (l ∷ ls) = gap u l.first

-- from run to run, after units of the sums s, with b remembered
unfoldable pub by_runs : ℕ → List (Run TextUnit) → Sums → Sums → Sums
by_runs m [] s b = b
by_runs m (l ∷ ls) s b = fitted m (onto s l) (by_runs m ls (spaced (onto s l) (gap_to (last_in l) ls)) (onto s l)) b

-- a line of the units us begins with l, which ends where a run does: the runs ks are left
pub record Begun (m x i : ℕ) (us : List TextUnit) (l : Run TextUnit) (ks : List (Run TextUnit)) : Type 0 where
  pub fits : x + width l ≤ m
  pub left : runs (joined ks) ≡ ks
  pub joins_up : whole l ++ joined ks ≡ us
  pub lines : breaking m x (runs us) ≡ filled m x l ks
  pub wide : wide_run m x i (runs us) ≡ wide_run m 0 (i + counts (whole l)) ks

module _ {m x i : ℕ} {us : List TextUnit} where
  pub begun_first : (l : Run TextUnit) (ks : List (Run TextUnit)) → runs us ≡ l ∷ ks → x + width l ≤ m →
      Begun m x i us l ks
  unfolding runs breaking wide_run joined
  begun_first l ks e f =
      record {
        fits = f;
        left = sym (cut_tail forbidden_between us l ks e);
        joins_up = ap (λ ls. joined ls) (sym e) ∙ cut_joined forbidden_between us;
        lines = rw (e, breaking);
        wide = rw (e, wide_run, le-leb _ _ f);
      }

  pub begun_more : (l k : Run TextUnit) (ks : List (Run TextUnit)) → Begun m x i us l (k ∷ ks) →
      x + width (extended l k) ≤ m → Begun m x i us (extended l k) ks
  unfolding runs filled wide_run joined
  begun_more l k ks q f =
      let w : 0 + width k ≤ m = omega (arith, width_extended l.first l.rest k.first k.rest) in
      record {
        fits = f;
        left = sym (cut_tail forbidden_between (joined (k ∷ ks)) k ks q.left);
        joins_up = append_assoc (whole l) (whole k) (joined ks) ∙ q.joins_up;
        lines = rw (filled, le-leb _ _ f) at q.lines;
        wide = rw (wide_run, le-leb _ _ w, add_assoc, ← counts_append (whole l) (whole k)) at q.wide;
      }

-- what the search gives after a run l that begins a line: it goes on with the next run, where both fit
abbrev pub after : ℕ → ℕ → ℕ → Run TextUnit → List (Run TextUnit) → Sums
after m x i l ks = by_runs m ks (spaced (onto (no_units i x) l) (gap_to (last_in l) ks)) (onto (no_units i x) l)

pub after_more : (m x i : ℕ) (l k : Run TextUnit) (ks : List (Run TextUnit)) →
    after m x i l (k ∷ ks)
    ≡ cond (leb (x + width (extended l k)) m) (after m x i (extended l k) ks) (onto (no_units i x) l)
unfolding by_runs
after_more m x i l k ks =
    let o = units_append (no_units i x) l.first l.rest k.first k.rest in
    let e = last_append l.first l.rest k.first k.rest in
    (λ t. fitted m (o t) (by_runs m ks (spaced (o t) (gap_to (sym e t) ks)) (o t)) (onto (no_units i x) l))
    ∙ rw (reach_width i x (extended l k))
