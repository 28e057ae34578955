-- Cases worked by hand: how one is written down, and the test that the rules give what each row wants.
--
-- A row wants, in one list: the answer's number and place (0 and the line count where it is accepted), the place
-- words, the line words, and the offsets of the ruby characters of each group. Assumes nothing.
use Rattle.std.proofs.Common.{ℕ, zero, suc, ◌-◌, Bool, true, cond, ◌&&◌, List, [], ◌∷◌, ◌++◌, eqb}
use Rattle.lists.proofs.Decisions.{same}
use Rattle.rules.specs.Records.{Rec}
use Rattle.rules.specs.Groups.{TextUnit, units, base_total, ruby_place}
use Rattle.rules.specs.Adjustment.{compose}
use Rattle.rules.specs.Sheet.{place_words, line_words}
use Rattle.rules.specs.Refusals.{judged}
use Rattle.rules.specs.Computed.{computed}

-- the places of the last k of n ruby characters, in order
ruby_from : ℕ → ℕ → ℕ → ℕ → List ℕ
ruby_from base s n zero = []
ruby_from base s n (suc k) = (ruby_place base n s (n - suc k)).1 ∷ ruby_from base s n k

rubies : List TextUnit → List ℕ
rubies [] = []
rubies (u ∷ us) = ruby_from (base_total u) u.first.size u.first.ruby u.first.ruby ++ rubies us

-- what the rules give records in a measure, without an indent
given : ℕ → List Rec → List ℕ
given m rs =
    let a = judged m 0 rs in
    let ls = compose m 0 (units rs) in
    let accepted = place_words 0 ls ++ line_words 0 ls ++ rubies (units rs) in
    a.number ∷ a.place ∷ cond (eqb a.number 0) accepted []

-- "size 80, K is class 19"; a record by code point, class, advance, group and ruby count
abbrev pub sized : ℕ → ℕ → ℕ → ℕ → ℕ → Rec
sized c k a g n = record { code = c; class = k; size = 80; advance = a; group = g; ruby = n }

abbrev pub K : Rec
K = sized 0x4E00 19 80 0 0

pub record Row : Type 0 where
  pub measure : ℕ
  pub text : List Rec
  pub want : List ℕ

abbrev pub row : ℕ → List Rec → List ℕ → Row
row m t w = record { measure = m; text = t; want = w }

pub right : List Row → Bool
right [] = true
right (r ∷ rs) = same (given r.measure r.text) r.want && right rs

-- one name for what a claim over rows computes
unfoldable pub worked : Unit {0}
unfolding computed ruby_from rubies given right
worked = tt
