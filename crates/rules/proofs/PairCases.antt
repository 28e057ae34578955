-- docs/RULES.md, "Space between units", "Where a line may be broken" and "How far a gap gives way", read pair by pair:
-- for two units, whether the break between them is forbidden, and the gap's space and its capacity at each stage. One
-- table, with one claim over all rows that the checker computes. What a row wants is written by hand from the papers'
-- words.
--
--   at80, at240  a unit of a class, of that size: of 80, 1/2 is 40, 1/4 is 20 and 1/8 is 10; of 240 they are 120, 60
--                and 30, so a fraction of the wrong side shows. The two differ in code point
--   pair         a row: left, right, the break; space, shrink stage 1, shrink stage 2, stretch stage 1, and the weight
--                at stretch stage 2, which is 1 at a permitted break with class 5 on neither side
--
-- Assumes nothing.
use Rattle.std.proofs.Common.{◌≡◌, refl, ℕ, Bool, true, false, List, [], ◌∷◌, map}
use Rattle.rules.specs.Sides.{Side, forbidden}
use Rattle.rules.specs.Gaps.{Gap, gap_of}
use Rattle.rules.specs.Computed.{computed}

-- a side by class, size and code point
abbrev sized : ℕ → ℕ → ℕ → Side
sized k s c = record { class = k; size = s; code = c }

abbrev at80 : ℕ → Side
at80 k = sized k 80 0x2014

abbrev at240 : ℕ → Side
at240 k = sized k 240 0x2026

abbrev forbids : Bool
forbids = true

abbrev permits : Bool
permits = false

-- what is between two units: a break that is forbidden or not, and a gap
pub record Between : Type 0 where
  pub forbidden_break : Bool
  pub gap : Gap

pub record Pair : Type 0 where
  pub left : Side
  pub right : Side
  pub want : Between

abbrev pair : Side → Side → Bool → ℕ → ℕ → ℕ → ℕ → ℕ → Pair
pair l r b x a c d w =
    record {
      left = l;
      right = r;
      want =
          record {
            forbidden_break = b;
            gap = record { space = x; shrink₁ = a; shrink₂ = c; stretch₁ = d; stretch₂ = w };
          };
    }

pub pairs : List Pair
pairs =
    -- a. L=5, R=5: 1/4 L + 1/4 R
    pair (at80 5) (at240 5) forbids 80 0 0 0 0
    ∷ pair (at240 5) (at80 5) forbids 80 0 0 0 0
    -- b. L=6 or 7, R=5: 1/2 L + 1/4 R
    ∷ pair (at80 6) (at240 5) forbids 100 0 0 0 0
    ∷ pair (at240 6) (at80 5) forbids 140 0 0 0 0
    ∷ pair (at80 7) (at240 5) forbids 100 0 0 0 0
    ∷ pair (at240 7) (at80 5) forbids 140 0 0 0 0
    -- c. R=5: 1/4 R, after 1, 2 and 27 too
    ∷ pair (at80 19) (at240 5) forbids 60 0 0 0 0
    ∷ pair (at240 19) (at80 5) forbids 20 0 0 0 0
    ∷ pair (at80 1) (at240 5) forbids 60 0 0 0 0
    ∷ pair (at80 2) (at240 5) forbids 60 0 0 0 0
    ∷ pair (at80 27) (at240 5) forbids 60 0 0 0 0
    -- d. L=5: 1/4 L, before 1, 2 and 27 too; a permitted break beside class 5 has no weight
    ∷ pair (at80 5) (at240 19) permits 20 0 0 0 0
    ∷ pair (at240 5) (at80 19) permits 60 0 0 0 0
    ∷ pair (at80 5) (at240 1) permits 20 0 0 0 0
    ∷ pair (at80 5) (at240 27) permits 20 0 0 0 0
    ∷ pair (at80 5) (at240 2) forbids 20 0 0 0 0
    -- e. L=1: 0, before 1 and 27 too
    ∷ pair (at80 1) (at240 19) forbids 0 0 0 0 0
    ∷ pair (at240 1) (at80 1) forbids 0 0 0 0 0
    ∷ pair (at80 1) (at240 27) forbids 0 0 0 0 0
    -- f. L=2: 1/2 L, before 1 and 27 too; shrink stage 1 down to 1/4
    ∷ pair (at80 2) (at240 19) permits 40 20 0 0 1
    ∷ pair (at240 2) (at80 19) permits 120 60 0 0 1
    ∷ pair (at80 2) (at240 1) permits 40 20 0 0 1
    ∷ pair (at240 2) (at80 1) permits 120 60 0 0 1
    ∷ pair (at80 2) (at240 27) permits 40 20 0 0 1
    ∷ pair (at80 2) (at240 3) forbids 40 20 0 0 0
    -- but 0 if R is 2, 6, 7 or 14
    ∷ pair (at80 2) (at240 2) forbids 0 0 0 0 0
    ∷ pair (at80 2) (at240 6) forbids 0 0 0 0 0
    ∷ pair (at80 2) (at240 7) forbids 0 0 0 0 0
    ∷ pair (at80 2) (at240 14) permits 0 0 0 0 1
    -- g. L=6 or 7: 1/2 L, before 1, 14 and 27 too; shrink stage 1 down to 1/4 with L=7, never with L=6
    ∷ pair (at80 6) (at240 19) permits 40 0 0 0 1
    ∷ pair (at240 6) (at80 19) permits 120 0 0 0 1
    ∷ pair (at80 6) (at240 1) permits 40 0 0 0 1
    ∷ pair (at80 6) (at240 14) permits 40 0 0 0 1
    ∷ pair (at80 6) (at240 27) permits 40 0 0 0 1
    ∷ pair (at80 6) (at240 4) forbids 40 0 0 0 0
    ∷ pair (at80 7) (at240 19) permits 40 20 0 0 1
    ∷ pair (at240 7) (at80 19) permits 120 60 0 0 1
    ∷ pair (at80 7) (at240 1) permits 40 20 0 0 1
    ∷ pair (at80 7) (at240 14) permits 40 20 0 0 1
    ∷ pair (at80 7) (at240 27) permits 40 20 0 0 1
    ∷ pair (at80 7) (at240 10) forbids 40 20 0 0 0
    -- but 0 if R is 2, 6 or 7
    ∷ pair (at80 6) (at240 2) forbids 0 0 0 0 0
    ∷ pair (at80 6) (at240 6) forbids 0 0 0 0 0
    ∷ pair (at80 6) (at240 7) forbids 0 0 0 0 0
    ∷ pair (at80 7) (at240 2) forbids 0 0 0 0 0
    ∷ pair (at80 7) (at240 6) forbids 0 0 0 0 0
    ∷ pair (at80 7) (at240 7) forbids 0 0 0 0 0
    -- h. R=1: 1/2 R; shrink stage 1 down to 1/4
    ∷ pair (at80 19) (at240 1) permits 120 60 0 0 1
    ∷ pair (at240 19) (at80 1) permits 40 20 0 0 1
    ∷ pair (at80 4) (at240 1) permits 120 60 0 0 1
    ∷ pair (at80 8) (at240 1) permits 120 60 0 0 1
    ∷ pair (at80 27) (at240 1) permits 120 60 0 0 1
    ∷ pair (at80 12) (at240 1) forbids 120 60 0 0 0
    -- but 0 if L=14
    ∷ pair (at80 14) (at240 1) permits 0 0 0 0 1
    ∷ pair (at240 14) (at80 1) permits 0 0 0 0 1
    -- i. L=27, R in 9, 10, 11, 15, 16, 19: 1/4 R; shrink stage 2 down to 1/8, stretch stage 1 up to 1/2
    ∷ pair (at80 27) (at240 19) permits 60 0 30 60 1
    ∷ pair (at240 27) (at80 19) permits 20 0 10 20 1
    ∷ pair (at80 27) (at240 15) permits 60 0 30 60 1
    ∷ pair (at80 27) (at240 16) permits 60 0 30 60 1
    ∷ pair (at80 27) (at240 9) forbids 60 0 30 60 0
    ∷ pair (at80 27) (at240 10) forbids 60 0 30 60 0
    ∷ pair (at80 27) (at240 11) forbids 60 0 30 60 0
    -- j. R=27, L in 4, 9, 10, 11, 15, 16, 19: 1/4 L; stages as for i
    ∷ pair (at80 19) (at240 27) permits 20 0 10 20 1
    ∷ pair (at240 19) (at80 27) permits 60 0 30 60 1
    ∷ pair (at80 4) (at240 27) permits 20 0 10 20 1
    ∷ pair (at80 9) (at240 27) permits 20 0 10 20 1
    ∷ pair (at80 10) (at240 27) permits 20 0 10 20 1
    ∷ pair (at80 11) (at240 27) permits 20 0 10 20 1
    ∷ pair (at80 15) (at240 27) permits 20 0 10 20 1
    ∷ pair (at80 16) (at240 27) permits 20 0 10 20 1
    -- k. otherwise 0: 27 before the others, 4 among them, and the others before 27
    ∷ pair (at80 27) (at240 3) forbids 0 0 0 0 0
    ∷ pair (at80 27) (at240 4) forbids 0 0 0 0 0
    ∷ pair (at80 27) (at240 8) permits 0 0 0 0 1
    ∷ pair (at80 27) (at240 12) permits 0 0 0 0 1
    ∷ pair (at80 27) (at240 13) permits 0 0 0 0 1
    ∷ pair (at80 27) (at240 14) permits 0 0 0 0 1
    ∷ pair (at80 3) (at240 27) permits 0 0 0 0 1
    ∷ pair (at80 8) (at240 27) permits 0 0 0 0 1
    ∷ pair (at80 13) (at240 27) permits 0 0 0 0 1
    ∷ pair (at80 14) (at240 27) permits 0 0 0 0 1
    -- forbidden when R is 2 to 7 (5 stands under c), 9, 10 or 11
    ∷ pair (at80 19) (at240 2) forbids 0 0 0 0 0
    ∷ pair (at80 19) (at240 3) forbids 0 0 0 0 0
    ∷ pair (at80 19) (at240 4) forbids 0 0 0 0 0
    ∷ pair (at80 19) (at240 6) forbids 0 0 0 0 0
    ∷ pair (at80 19) (at240 7) forbids 0 0 0 0 0
    ∷ pair (at80 19) (at240 9) forbids 0 0 0 0 0
    ∷ pair (at80 19) (at240 10) forbids 0 0 0 0 0
    ∷ pair (at80 19) (at240 11) forbids 0 0 0 0 0
    -- and permitted when it is another (1 stands under h, 27 under j)
    ∷ pair (at80 19) (at240 8) permits 0 0 0 0 1
    ∷ pair (at80 19) (at240 12) permits 0 0 0 0 1
    ∷ pair (at80 19) (at240 13) permits 0 0 0 0 1
    ∷ pair (at80 19) (at240 14) permits 0 0 0 0 1
    ∷ pair (at80 19) (at240 15) permits 0 0 0 0 1
    ∷ pair (at80 19) (at240 16) permits 0 0 0 0 1
    ∷ pair (at80 19) (at240 19) permits 0 0 0 0 1
    -- forbidden when L is 1 (under e) or 12
    ∷ pair (at80 12) (at240 8) forbids 0 0 0 0 0
    ∷ pair (at80 12) (at240 12) forbids 0 0 0 0 0
    ∷ pair (at80 12) (at240 13) forbids 0 0 0 0 0
    ∷ pair (at80 12) (at240 14) forbids 0 0 0 0 0
    ∷ pair (at80 12) (at240 19) forbids 0 0 0 0 0
    ∷ pair (at80 12) (at240 27) forbids 0 0 0 0 0
    -- and permitted when it is another (2 under f, 5 under d, 6 and 7 under g, 27 under i)
    ∷ pair (at80 3) (at240 19) permits 0 0 0 0 1
    ∷ pair (at80 4) (at240 19) permits 0 0 0 0 1
    ∷ pair (at80 8) (at240 19) permits 0 0 0 0 1
    ∷ pair (at80 9) (at240 19) permits 0 0 0 0 1
    ∷ pair (at80 10) (at240 19) permits 0 0 0 0 1
    ∷ pair (at80 11) (at240 19) permits 0 0 0 0 1
    ∷ pair (at80 13) (at240 19) permits 0 0 0 0 1
    ∷ pair (at80 14) (at240 19) permits 0 0 0 0 1
    ∷ pair (at80 15) (at240 19) permits 0 0 0 0 1
    ∷ pair (at80 16) (at240 19) permits 0 0 0 0 1
    -- forbidden when both are 8 with equal code points, and not when these or the classes differ
    ∷ pair (at80 8) (sized 8 240 0x2014) forbids 0 0 0 0 0
    ∷ pair (at80 8) (at240 8) permits 0 0 0 0 1
    ∷ pair (at80 8) (sized 19 240 0x2014) permits 0 0 0 0 1
    ∷ pair (at80 19) (sized 8 240 0x2014) permits 0 0 0 0 1
    ∷ pair (at80 19) (sized 19 240 0x2014) permits 0 0 0 0 1
    -- forbidden when both are 27, with equal code points or not
    ∷ pair (at80 27) (sized 27 240 0x2014) forbids 0 0 0 0 0
    ∷ pair (at80 27) (at240 27) forbids 0 0 0 0 0
    -- a digit holds a postfix: 27 before 13 is forbidden when L's code point is U+0030 to U+0039, whatever R's is
    ∷ pair (sized 27 80 0x2F) (at240 13) permits 0 0 0 0 1
    ∷ pair (sized 27 80 0x30) (at240 13) forbids 0 0 0 0 0
    ∷ pair (sized 27 80 0x35) (sized 13 240 0x25) forbids 0 0 0 0 0
    ∷ pair (sized 27 80 0x35) (sized 13 240 0x35) forbids 0 0 0 0 0
    ∷ pair (sized 27 80 0x39) (at240 13) forbids 0 0 0 0 0
    ∷ pair (sized 27 80 0x3A) (at240 13) permits 0 0 0 0 1
    ∷ pair (sized 27 80 0x61) (sized 13 240 0x35) permits 0 0 0 0 1
    -- and only there: digits of other classes, before other classes and on the right hold nothing
    ∷ pair (sized 19 80 0x35) (sized 13 240 0x25) permits 0 0 0 0 1
    ∷ pair (sized 13 80 0x35) (sized 13 240 0x25) permits 0 0 0 0 1
    ∷ pair (sized 27 80 0x35) (at240 12) permits 0 0 0 0 1
    ∷ pair (sized 27 80 0x35) (at240 19) permits 60 0 30 60 1
    ∷ pair (sized 13 80 0x25) (sized 27 240 0x35) permits 0 0 0 0 1
    ∷ []

pub wanted : Pair → Between
wanted p = p.want

-- what the rules give two units
pub ruled : Pair → Between
ruled p = record { forbidden_break = forbidden p.left p.right; gap = gap_of p.left p.right }

-- every row comes out as the papers have it
pub pairs_hold : map ruled pairs ≡ map wanted pairs
unfolding computed pairs wanted ruled
pairs_hold = refl
