-- Laws of a sheet's length. Assumes nothing.
use Rattle.std.proofs.Common.{◌≡◌, refl, ℕ, ◌*◌, ◌/◌, ◌%◌, ◌≤◌, arith, Bool, true, false, ◌||◌, leb, eqb, leb-true}
use Rattle.std.proofs.Common.{eqb-true}
use Rattle.rules.specs.Basics.{within}
use Rattle.rules.specs.Layout.{slot_length}
use Rattle.rules.specs.Sheet.{length_ok}
use Rattle.std.proofs.lemmas.Bool.{true≢false}
use Rattle.rules.proofs.RecordLimits.{and_left, and_right}

pub or_left : (a b : Bool) → a || b ≡ false → a ≡ false
or_left true b e = e
or_left false b e = refl

pub or_right : (a b : Bool) → a || b ≡ false → b ≡ false
or_right true b e = absurd (true≢false e)
or_right false b e = e

-- what a length within its limits says
pub record Whole (n : ℕ) : Type 0 where
  pub exact : n ≡ slot_length * (n / slot_length)
  pub some : 1 ≤ n / slot_length
  pub few : n / slot_length ≤ 64

pub whole : (n : ℕ) → length_ok n ≡ true → Whole n
whole n e =
    let d : n % slot_length ≡ 0 = eqb-true _ _ (and_left (eqb (n % slot_length) 0) _ e) in
    let w = and_right (eqb (n % slot_length) 0) (within 1 64 (n / slot_length)) e in
    record {
      exact = omega arith;
      some = leb-true 1 _ (and_left (leb 1 (n / slot_length)) (leb (n / slot_length) 64) w);
      few = leb-true _ 64 (and_right (leb 1 (n / slot_length)) (leb (n / slot_length) 64) w);
    }
