-- No refusal has the number 0, which is success. Assumes nothing.
use Rattle.std.proofs.Common.{◌≡◌, None, Some}
use Rattle.rules.specs.Numbers.{number_of}
use Rattle.rules.specs.declared.refusal.Refusal.{Refusal}
use Rattle.rules.proofs.Numbers.{refusal_told}
use Rattle.std.proofs.lemmas.Option.{none-some}

pub number_not_0 : (e : Refusal) → number_of e ≡ 0 → ⊥
number_not_0 e z = let told : None ≡ Some e = rw z at (refusal_told e) in none-some _ told
