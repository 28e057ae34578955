-- Whether two lists are the same. Assumes nothing.
use Rattle.std.proofs.Common.{ℕ, Bool, List, nat_eq}
use Rattle.std.specs.Cmp.Lexicographic.{pointwise}

-- two lists of numbers are the same
abbrev pub same : List ℕ → List ℕ → Bool
same = pointwise nat_eq
