-- Tables that have the same metrics below a record, one change after the other. Assumes nothing.
use Rattle.std.proofs.Common.{refl, ◌∙◌, ℕ, ◌≤◌, arith}
use Rattle.compose.specs.Scan.{MetricsBelow}
use Rattle.compose.specs.declared.metrics.Metrics.{Metrics}

pub below_refl : (n : ℕ) (ms : Metrics) → MetricsBelow n ms ms
below_refl n ms = record { advances = λ k d h. refl; gaps = λ k d h. refl; offsets = λ k d h. refl }

pub below_trans : {n k : ℕ} {ms₀ ms₁ ms₂ : Metrics} →
    MetricsBelow n ms₀ ms₁ →
    MetricsBelow k ms₁ ms₂ → k ≤ n → MetricsBelow k ms₀ ms₂
below_trans a b l =
    record {
      advances = λ m d h. b.advances m d h ∙ a.advances m d (omega arith);
      gaps = λ m d h. b.gaps m d h ∙ a.gaps m d (omega arith);
      offsets = λ m d h. b.offsets m d h ∙ a.offsets m d (omega arith);
    }

pub below_less : {n k : ℕ} {ms₀ ms : Metrics} → MetricsBelow n ms₀ ms → k ≤ n →
    MetricsBelow k ms₀ ms
below_less b l = below_trans b (below_refl _ _) l
