-- The search for the longest line from record to record gives what the search by runs gives. Assumes nothing.
use Rattle.std.proofs.Common.{◌≡◌, refl, ◌∙◌, ℕ, ◌+◌, ◌≤◌, ◌<◌, arith, add-zero, cond, List, [], ◌∷◌, ◌++◌, inl, inr}
use Rattle.std.proofs.Common.{length, le-leb}
use borrow.Author.Tests.{lt-leb}
use Rattle.rules.specs.Basics.{Run, alone, link, cut}
use Rattle.rules.specs.Groups.{TextUnit, advance, offsets, base_offsets}
use Rattle.rules.specs.Breaks.{forbidden_between, gap, runs}
use Rattle.std.proofs.lemmas.Bool.{cases_Bool, cases_lt}
use Rattle.rules.proofs.Cuts.{cut_first}
use Rattle.rules.proofs.WordCounts.{length_base_offsets}
use Rattle.compose.specs.Metrics.{RecordMetrics, outer, unit_metrics, metrics_of}
use Rattle.compose.proofs.Sums.{Sums, moved, spaced, onto, onto_units, reach, reach_more}
use Rattle.compose.proofs.SearchByRuns.{fitted, by_runs}

unfoldable pub searched : ℕ → List RecordMetrics → Sums → Sums → Sums
searched m [] s b = b
searched m (q ∷ qs) s b =
    let t = moved s 1 q.advance in
    fitted m t (searched m qs (spaced t q.gap) (cond q.forbidden b t)) b

-- the search after a unit, up to which the sums are t
abbrev onward : ℕ → TextUnit → List TextUnit → List RecordMetrics → Sums → Sums → Sums
onward m u us qs t b =
    fitted m t (searched m qs (spaced t (outer u us 0).gap) (cond (outer u us 0).forbidden b t)) b

module _ (m : ℕ) where
  -- units before others change nothing, where nothing is remembered between them
  fitted_twice : (s t r b : Sums) → reach s ≤ reach t → fitted m s (fitted m t r b) b ≡ fitted m t r b
  fitted_twice s t r b h =
      elim (cases_lt m (reach s)) [
        | inl o ↦ let w : m < reach t = omega arith in rw (lt-leb _ _ o, lt-leb _ _ w)
        | inr o ↦ rw (le-leb _ _ o)
      ]

  -- nor do the records of a unit before its last
  by_unit : (u : TextUnit) (us : List TextUnit) (o : ℕ) (os : List ℕ) (qs : List RecordMetrics) (s b : Sums) →
      searched m (unit_metrics u us (o ∷ os) ++ qs) s b ≡ onward m u us qs (moved s (length (o ∷ os)) (advance u)) b
  unfolding unit_metrics searched
  by_unit u [] o [] qs s b = refl
  by_unit u (v ∷ us) o [] qs s b = refl
  by_unit u us o (p ∷ os) qs s b =
      let n : s.end + 1 + length (p ∷ os) ≡ s.end + length (o ∷ p ∷ os) = omega arith in
      simp (by_unit u us p os qs, add-zero)
      (rw n (fitted_twice s (moved s (length (o ∷ p ∷ os)) (advance u)) _ b (omega arith)))

  searched_unit : (u : TextUnit) (us : List TextUnit) (s b : Sums) →
      searched m (metrics_of (u ∷ us)) s b ≡ onward m u us (metrics_of us) (onto s (alone u)) b
  unfolding metrics_of base_offsets offsets onto_units
  searched_unit u us s b = by_unit u us _ _ (metrics_of us) s b ∙ rw (length_base_offsets u)

  -- a unit before runs, the first of which starts with v
  unit_run : (u v : TextUnit) (l : Run TextUnit) (ls : List (Run TextUnit)) (s b : Sums) → l.first ≡ v →
      let t = onto s (alone u) in
      fitted m t (by_runs m (l ∷ ls) (spaced t (gap u v)) (cond (forbidden_between u v) b t)) b
      ≡ by_runs m (link forbidden_between u (l ∷ ls)) s b
  unfolding by_runs onto_units
  unit_run u v l ls s b e =
      let t = onto s (alone u) in
      rw (← e)
      (elim (cases_Bool (forbidden_between u l.first)) [
        | inl h ↦
            rw h
            (fitted_twice t (onto (spaced t (gap u l.first)) l) _ b (reach_more t u l.first l.rest))
        | inr h ↦ rw h
      ])

  pub searched_by_runs : (us : List TextUnit) (s b : Sums) → searched m (metrics_of us) s b ≡ by_runs m (runs us) s b
  unfolding searched metrics_of by_runs runs cut
  searched_by_runs [] s b = refl
  searched_by_runs (u ∷ []) s b = searched_unit u [] s b
  searched_by_runs (u ∷ v ∷ us) s b =
      let f = cut_first forbidden_between v us in
      searched_unit u (v ∷ us) s b
      ∙ rw (searched_by_runs (v ∷ us), f.2) (unit_run u v f.0 f.1 s b f.3)
