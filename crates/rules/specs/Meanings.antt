-- What the definitions of Groups, Breaks and Adjustment mean, said without their algorithms. proofs/Claims.antt proves
-- each of these of them.
--
--   linked together        every two neighbours of a run pass a test
--   kept apart           no two elements that meet between neighbouring runs pass it
--   boundary             a place between the runs
--   choice               of permitted breaks: non-empty lines that join up to the paragraph and meet at such breaks
--   fits                 every line's smallest width is within the measure, the first line's with the indent
--   longest              no longer line that ends at a permitted break or the paragraph's end fits
--   ruby placed          ruby place refuses no ruby character of a unit
--   listed               a record's code point stands in the list of its class (docs/RULES.md,
--                        "Which characters a class has")
--   first lacking        the first element of a list that lacks a property
--   never opens          a character that is listed only under classes that start no line (same section)
--
-- Assumes nothing.
use Rattle.std.specs.Prelude.{◌≡◌, ℕ, ◌+◌, ◌≤◌, ◌<◌, Bool, true, false, List, [], ◌∷◌, ◌++◌, eqb, length}
use Rattle.lists.specs.Lists.{lists}
use Rattle.lists.specs.Meanings.{Belongs}
use Rattle.rules.specs.Basics.{Run, whole, extended, joined}
use Rattle.rules.specs.Records.{Rec}
use Rattle.rules.specs.Sides.{not_at_line_start}
use Rattle.rules.specs.Gaps.{Gap, least, plus, no_gaps}
use Rattle.rules.specs.Groups.{TextUnit, counts, base_total, ruby_ok, ruby_offset, ruby_place}
use Rattle.rules.specs.Breaks.{forbidden_between, width, gap}
use Rattle.rules.specs.Adjustment.{Amounts, share, adjusted}

-- every element of a list has a property
pub data All {A : Type 0} (P : A → Type 0) : List A → Type 0 where
  all_none : All P []
  all_more : {a : A} {bs : List A} → P a → All P bs → All P (a ∷ bs)

-- the first of the elements ps that lacks the property stands at i
pub record FirstLacking {A : Type 0} (P : A → Type 0) (ps : List A) (i : ℕ) : Type 0 where
  pub before : List A
  pub here : A
  pub after : List A
  pub all : before ++ (here ∷ after) ≡ ps
  pub have : All P before
  pub lacks : P here → ⊥
  pub place : i ≡ length before

abbrev pub Listed : Rec → Type 0
Listed r = Belongs r.class r.code lists

abbrev pub NeverOpens : ℕ → Type 0
NeverOpens code = (c : ℕ) → Belongs c code lists → not_at_line_start c ≡ true

-- of two neighbours, the second starts with a code point
abbrev pub starts_with : ℕ → TextUnit → TextUnit → Bool
starts_with code u v = eqb v.first.code code

abbrev pub last_of : {A : Type 0} → A → List A → A
last_of a [] = a
last_of a (b ∷ bs) = last_of b bs

abbrev pub last_in : {A : Type 0} → Run A → A
last_in l = last_of l.first l.rest

-- every two neighbours pass the test t
pub data Linked {A : Type 0} (t : A → A → Bool) : A → List A → Type 0 where
  linked_one : {a : A} → Linked t a []
  linked_more : {a b : A} {bs : List A} → t a b ≡ true → Linked t b bs → Linked t a (b ∷ bs)

abbrev pub LinkedRun : {A : Type 0} → (A → A → Bool) → Run A → Type 0
LinkedRun t l = Linked t l.first l.rest

-- the last element of a run and the first of the next do not pass it
pub data Apart {A : Type 0} (t : A → A → Bool) : List (Run A) → Type 0 where
  apart_none : Apart t []
  apart_one : {l : Run A} → Apart t (l ∷ [])
  apart_more : {l k : Run A} {ls : List (Run A)} → t (last_in l) k.first ≡ false → Apart t (k ∷ ls) →
      Apart t (l ∷ k ∷ ls)

-- the maximal runs of linked neighbours of a list
pub record Maximal {A : Type 0} (t : A → A → Bool) (ps : List A) (ls : List (Run A)) : Type 0 where
  pub joins_up : joined ls ≡ ps
  pub linked : All (LinkedRun t) ls
  pub apart : Apart t ls

-- runs have a boundary between two stretches of what they join up to
pub record Boundary {A : Type 0} (ls : List (Run A)) (ps qs : List A) : Type 0 where
  pub before : List (Run A)
  pub after : List (Run A)
  pub all : before ++ after ≡ ls
  pub left : joined before ≡ ps
  pub right : joined after ≡ qs

-- a unit is a single record, or a run of records of one non-zero group
pub data OneUnit : TextUnit → Type 0 where
  single : {u : TextUnit} → u.rest ≡ [] → OneUnit u
  grouped : {u : TextUnit} → (u.first.group ≡ 0 → ⊥) → All (λ r. r.group ≡ u.first.group) u.rest → OneUnit u

-- of a unit u: a group has a ruby character, each one's numbers are within ruby place's limits, and ruby place gives
-- its offset
pub record RubyPlaced (u : TextUnit) : Type 0 where
  pub some_ruby : (u.first.group ≡ 0 → ⊥) → 0 < u.first.ruby
  pub within_limits : (i : ℕ) → i < u.first.ruby → ruby_ok (base_total u) u.first.ruby u.first.size i ≡ true
  pub offset : (i : ℕ) → i < u.first.ruby →
      ruby_place (base_total u) u.first.ruby u.first.size i
      ≡ (0, ruby_offset (base_total u) u.first.ruby u.first.size i)

-- a choice of permitted breaks of the units us: lines, each boundary of which is a permitted break
pub record Choice (us : List TextUnit) (ls : List (Run TextUnit)) : Type 0 where
  pub joins_up : joined ls ≡ us
  pub permitted : Apart forbidden_between ls

-- each line's smallest width is within the measure m, the first line's from x on
pub data Fits (m : ℕ) : ℕ → List (Run TextUnit) → Type 0 where
  fits_none : {x : ℕ} → Fits m x []
  fits_more : {x : ℕ} {l : Run TextUnit} {ls : List (Run TextUnit)} → x + width l ≤ m → Fits m 0 ls → Fits m x (l ∷ ls)

-- a stretch of units ends at a permitted break before the others, or at the paragraph's end
pub data EndsWell : Run TextUnit → List TextUnit → Type 0 where
  at_end : {l : Run TextUnit} → EndsWell l []
  at_break : {l : Run TextUnit} {v : TextUnit} {vs : List TextUnit} → forbidden_between (last_in l) v ≡ false →
      EndsWell l (v ∷ vs)

-- of the lines, each is the longest: with any stretch of the units right after it, up to where a line may end, it does
-- not fit
pub data Longest (m : ℕ) : ℕ → List (Run TextUnit) → Type 0 where
  longest_none : {x : ℕ} → Longest m x []
  longest_more : {x : ℕ} {l : Run TextUnit} {ls : List (Run TextUnit)} →
      ((t : Run TextUnit) (vs : List TextUnit) → whole t ++ vs ≡ joined ls → EndsWell t vs →
      m < x + width (extended l t)) →
      Longest m 0 ls → Longest m x (l ∷ ls)

-- where a run after others stands: a first run at x, any other at 0
abbrev pub start_of : {A : Type 0} → ℕ → List A → ℕ
start_of x [] = x
start_of x (a ∷ bs) = 0

-- the first of the runs ls that does not fit m, where the first run stands at x; it starts with record i
pub record FirstWide (m x : ℕ) (ls : List (Run TextUnit)) (i : ℕ) : Type 0 where
  pub before : List (Run TextUnit)
  pub run : Run TextUnit
  pub after : List (Run TextUnit)
  pub all : before ++ (run ∷ after) ≡ ls
  pub fit : Fits m x before
  pub wide : m < start_of x before + width run
  pub place : i ≡ counts (joined before)

-- a line of a unit u and units us has a gap g, after gaps that add up to s
pub data GapAt : TextUnit → List TextUnit → Gap → Gap → Type 0 where
  gap_here : {u v : TextUnit} {us : List TextUnit} → GapAt u (v ∷ us) no_gaps (gap u v)
  gap_later : {u v : TextUnit} {us : List TextUnit} {s g : Gap} → GapAt v us s g →
      GapAt u (v ∷ us) (plus (gap u v) s) g

-- what the gap gets at each stage is within its capacity there, and one without weight gets nothing at stretch stage
-- 2; so it comes to no less than its least and, before that stage, to no more than what stretch stage 1 allows
pub record WithinLimits (e : Amounts) (c s g : Gap) : Type 0 where
  pub shrink₁ : share e.shrink₁ c.shrink₁ s.shrink₁ (s.shrink₁ + g.shrink₁) ≤ g.shrink₁
  pub shrink₂ : share e.shrink₂ c.shrink₂ s.shrink₂ (s.shrink₂ + g.shrink₂) ≤ g.shrink₂
  pub stretch₁ : share e.stretch₁ c.stretch₁ s.stretch₁ (s.stretch₁ + g.stretch₁) ≤ g.stretch₁
  pub stretch₂ : g.stretch₂ ≡ 0 → share e.stretch₂ c.stretch₂ s.stretch₂ (s.stretch₂ + g.stretch₂) ≡ 0
  pub low : least g ≤ adjusted e c s g
  pub high : e.stretch₂ ≡ 0 → adjusted e c s g ≤ g.space + g.stretch₁

-- where the second stage moves, the gap has all of its capacity at the first
pub record FirstStageFull (e : Amounts) (c s g : Gap) : Type 0 where
  pub shrink : 0 < e.shrink₂ → share e.shrink₁ c.shrink₁ s.shrink₁ (s.shrink₁ + g.shrink₁) ≡ g.shrink₁
  pub stretch : 0 < e.stretch₂ →
      share e.stretch₁ c.stretch₁ s.stretch₁ (s.stretch₁ + g.stretch₁) ≡ g.stretch₁
