-- The line between two records is the one that ends there, and the search gives the line from a record on.
-- Assumes nothing.
use Rattle.std.proofs.Common.{◌≡◌, refl, ap, ◌∙◌, ℕ, suc, ◌+◌, ◌-◌, ◌<◌, arith, List, [], ◌∷◌, ◌++◌, inl, inr, length}
use Rattle.std.proofs.Common.{le-leb}
use borrow.Author.Tests.{lt-leb}
use Rattle.rules.specs.Basics.{Run, whole, extended, joined}
use Rattle.rules.specs.Groups.{TextUnit, count, counts}
use Rattle.rules.specs.Breaks.{width, runs, wide_run, filled, breaking}
use Rattle.rules.specs.Adjustment.{gaps_of}
use Rattle.rules.specs.Gaps.{no_gaps}
use Rattle.rules.specs.Packed.{Packs, AtMost}
use Rattle.std.proofs.lemmas.Bool.{cases_lt}
use Rattle.compose.specs.Limits.{most_gaps}
use Rattle.compose.specs.Paragraph.{record_count, units_from, unit_at, next_at}
use Rattle.compose.specs.Lines.{up_to, line_at}
use Rattle.compose.specs.LineFrom.{LineDue, NoLine, LineFrom}
use Rattle.compose.specs.declared.breaking.LineSums.{LineSums}
use Rattle.compose.proofs.GapSums.{nothing_plus}
use Rattle.compose.proofs.UnitsFrom.{unit_step, from_after, runs_some}
use Rattle.compose.proofs.Sums.{Sums, no_units, onto, units_sums, reach_width}
use Rattle.compose.proofs.SearchByRuns.{by_runs, Begun, begun_first, begun_more, after, after_more}
use Rattle.compose.specs.declared.metrics.Metrics.{Metrics}

-- the units of whole lines are taken back whole
up_to_all : (us vs : List TextUnit) → up_to (counts us) (us ++ vs) ≡ us
unfolding counts up_to
up_to_all [] [] = refl
up_to_all [] (v ∷ vs) = refl
up_to_all (u ∷ us) vs =
    let e : count u + counts us ≡ suc (length u.rest + counts us) = omega arith in
    let f : suc (length u.rest + counts us) - count u ≡ counts us = omega arith in
    rw (e, up_to, f) (ap (λ ts. u ∷ ts) (up_to_all us vs))

line_is : (ws : List ℕ) (i : ℕ) (l : Run TextUnit) (vs : List TextUnit) → i < record_count ws →
    whole l ++ vs ≡ units_from ws i →
    line_at ws i (i + counts (whole l)) ≡ l
unfolding line_at counts
line_is ws i l vs h e =
    let s = unit_step ws i h in
    let p : l.first ≡ unit_at ws i = cc in
    let q : l.rest ++ vs ≡ units_from ws (next_at ws i) = cc in
    let n : i + (count l.first + counts l.rest) - next_at ws i ≡ counts l.rest =
    omega (arith, ap (λ u. count u) p) in
    rw (n, ← q, up_to_all, ← p)

abbrev pub sums_by : LineSums → Sums
sums_by l = record { end = l.end; solid = l.solid; gaps = l.gaps }

-- what the search from record i on gives
abbrev pub given : List ℕ → ℕ → ℕ → ℕ → Sums
given ws i m x = by_runs m (runs (units_from ws i)) (no_units i x) (no_units i x)

-- what a search gives that remembers no line by the record that it starts with
pub record Searched (ws : List ℕ) (i m x : ℕ) (r : LineSums) : Type 0 where
  pub none_fits : r.end ≡ i → NoLine ws i m x
  pub line : (r.end ≡ i → ⊥) → LineFrom ws i m x r

module _ {ws : List ℕ} {ms : Metrics} {i m x : ℕ} (p : LineDue ws ms i m x) {r : LineSums}
    (b : AtMost most_gaps r.gaps) (packs : Packs r.gaps) where
  -- a line takes none of the runs that are left
  line_taken : (l : Run TextUnit) (ks : List (Run TextUnit)) → Begun m x i (units_from ws i) l ks →
      filled m x l ks ≡ l ∷ breaking m 0 ks → sums_by r ≡ onto (no_units i x) l → Searched ws i m x r
  unfolding counts
  line_taken l ks q h e =
      let s = e ∙ units_sums (no_units i x) l.first l.rest in
      let a = from_after ws i (whole l) (joined ks) (omega arith) q.joins_up in
      let n = line_is ws i l (joined ks) p.inside q.joins_up in
      let j : r.end ≡ i + counts (whole l) = ap (λ f. f.end) s in
      record {
        none_fits = λ z. absurd (omega arith);
        line = λ z.
            record {
              taken =
                  rw j
                  (record {
                    some = omega arith;
                    within = a.1;
                    ends = rw n;
                    joins_up = rw (n, ← a.0) q.joins_up;
                    fits = rw n q.fits;
                    lines = rw (n, ← a.0, q.left) (q.lines ∙ h);
                    wide = rw (← a.0, q.left) q.wide;
                  });
              sums =
                  rw j
                  (record {
                    solid_is = rw n (ap (λ f. f.solid) s);
                    gaps_are = rw n (ap (λ f. f.gaps) s ∙ nothing_plus (gaps_of l));
                    gaps_limit = b;
                    packs = packs;
                    solid_limit = omega (arith, ap (λ f. f.solid) e, reach_width i x l);
                  });
            };
      }

  line_after : (l : Run TextUnit) (ks : List (Run TextUnit)) → Begun m x i (units_from ws i) l ks →
      sums_by r ≡ after m x i l ks → Searched ws i m x r
  unfolding by_runs filled breaking
  line_after l [] q e = line_taken l [] q refl e
  line_after l (k ∷ ks) q e =
      let h = e ∙ after_more m x i l k ks in
      elim (cases_lt m (x + width (extended l k))) [
        | inl o ↦ line_taken l (k ∷ ks) q (rw (filled, lt-leb _ _ o)) (rw (lt-leb _ _ o) at h)
        | inr o ↦ line_after (extended l k) ks (begun_more l k ks q o) (rw (le-leb _ _ o) at h)
      ]

  pub line_found : sums_by r ≡ given ws i m x → Searched ws i m x r
  unfolding by_runs wide_run
  line_found e =
      let f = runs_some ws i p.inside in
      let h = rw (f.2, by_runs, reach_width i x f.0) at e in
      elim (cases_lt m (x + width f.0)) [
        | inl o ↦
            let j : r.end ≡ i = ap (λ s. s.end) (rw (lt-leb _ _ o) at h) in
            record {
              none_fits = λ z. rw (f.2, wide_run, lt-leb _ _ o);
              line = λ z. absurd (z j);
            }
        | inr o ↦ line_after f.0 f.1 (begun_first f.0 f.1 f.2 o) (rw (le-leb _ _ o) at h)
      ]

-- the line that a search remembers, if it remembers one
module _ {ws : List ℕ} {ms : Metrics} {i m x : ℕ} (p : LineDue ws ms i m x) where
  pub found_none : no_units i x ≡ given ws i m x → NoLine ws i m x
  found_none e =
      let r : LineSums = record { end = i; solid = x; gaps = no_gaps } in
      (line_found p {r = r} (omega arith) (omega arith) e).none_fits refl

  pub found_line : (l : LineSums) → AtMost most_gaps l.gaps → Packs l.gaps → i < l.end →
      sums_by l ≡ given ws i m x → LineFrom ws i m x l
  found_line l b packs h e = (line_found p b packs e).line (λ z. omega arith)
