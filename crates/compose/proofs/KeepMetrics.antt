-- The loop of `unit_from`. Assumes nothing.
use Rattle.std.proofs.Common.{◌≡◌, ℕ, ◌-◌, ◌≤◌, ◌<◌, List}
use Rattle.rules.specs.Records.{rec_at}

-- the records from record a up to i are of one group
pub record InGroup (ws : List ℕ) (a i : ℕ) : Type 0 where
  pub low : a ≤ i
  pub last : a < i → (rec_at ws (i - 1)).group ≡ (rec_at ws a).group
