-- What holds nowhere. Assumes nothing.
use Rattle.std.proofs.Common.{◌≡◌, ℕ, arith}

-- where `cc` finds that two constructors would be equal, anything holds
pub no_way : {A : Type 0} → ◌≡◌ {A = ℕ} 0 1 → A
no_way z = absurd (omega arith)
