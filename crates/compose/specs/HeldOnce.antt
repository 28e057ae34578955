-- Metrics are held in one way at most, as the ghost field of `Scanned` has to know. Assumes nothing.
use Rattle.std.specs.Prelude.{◌≡◌, ℕ, ◌+◌, List, [], ◌∷◌}
use Rattle.std.proofs.Common.{refl, sym, ◌∙◌}
use Rattle.std.proofs.Props.{props}
use Rattle.rules.specs.Gaps.{Gap, no_gaps}
use Rattle.compose.specs.Metrics.{RecordMetrics, MetricsAre, MetricsAt, Held, held_none, held_more}
use Rattle.compose.specs.declared.metrics.Metrics.{Metrics}

are_prop : (q : RecordMetrics) (a : ℕ) (g : Gap) (o : ℕ) → IsProp (MetricsAre q a g o)
are_prop q a g o = hlevel props

last_prop : (q : RecordMetrics) (qs : List RecordMetrics) → IsProp (qs ≡ [] → q.gap ≡ no_gaps)
last_prop q qs = hlevel props

module _ {ms : Metrics} where
  none_is : {i : ℕ} (h : Held ms i []) → h ≡ held_none
  none_is held_none = refl

  at : {i : ℕ} {q : RecordMetrics} {qs : List RecordMetrics} → Held ms i (q ∷ qs) → MetricsAt q ms i
  at (held_more a b c) = a

  last : {i : ℕ} {q : RecordMetrics} {qs : List RecordMetrics} → Held ms i (q ∷ qs) → qs ≡ [] → q.gap ≡ no_gaps
  last (held_more a b c) = b

  rest : {i : ℕ} {q : RecordMetrics} {qs : List RecordMetrics} → Held ms i (q ∷ qs) → Held ms (i + 1) qs
  rest (held_more a b c) = c

  more_is : {i : ℕ} {q : RecordMetrics} {qs : List RecordMetrics} (h : Held ms i (q ∷ qs)) →
      held_more (at h) (last h) (rest h) ≡ h
  unfolding at last rest
  more_is (held_more a b c) = refl

  pub held_prop : (i : ℕ) (qs : List RecordMetrics) → IsProp (Held ms i qs)
  held_prop i [] h k = none_is h ∙ sym (none_is k)
  held_prop i (q ∷ qs) h k =
      sym (more_is h)
      ∙ (λ t. held_more (are_prop q _ _ _ (at h) (at k) t) (last_prop q qs (last h) (last k) t)
      (held_prop (i + 1) qs (rest h) (rest k) t))
      ∙ more_is k
