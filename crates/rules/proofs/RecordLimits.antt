-- Bounds: what answer 8 leaves of records. Assumes nothing.
use Rattle.std.proofs.Common.{◌≡◌, sym, ℕ, ◌*◌, ◌/◌, ◌≤◌, arith, Bool, true, false, ◌&&◌, List, ◌∷◌, inl, inr, None}
use Rattle.std.proofs.Common.{◌≢◌, leb, eqb, drop, eqb-true, ne_eqb}
use Rattle.std.proofs.Math.Bool.{and-eq-true_iff, and-false}
use Rattle.lists.specs.Classes.{number_of}
use Rattle.lists.specs.declared.classes.Class.{Class}
use Rattle.lists.specs.declared.classes.Class.TheVariants.{Hiragana, Katakana, Ideographic}
use Rattle.rules.specs.Basics.{within, is_in}
use Rattle.rules.specs.Limits.{largest_size, highest_group, most_ruby}
use Rattle.rules.specs.Records.{Rec, group_classes, code_ok, classes, class_ok, size_ok, AdvanceKind, half_size}
use Rattle.rules.specs.Records.{to_size, to_twice}
use Rattle.rules.specs.Records.{full_size, advance_kind, advance_fits, advance_ok, group_ok, rec_ok, bad_record}
use Rattle.rules.specs.Sides.{side_by}
use Rattle.rules.specs.Bounds.{SideOk}
use Rattle.rules.proofs.FirstFailing.{none_fails, passes_at}
use Rattle.rules.proofs.Bounds.{within_high, size_bounds}
use Rattle.std.proofs.lemmas.Bool.{cases_Bool}

pub record RecordBounds (r : Rec) : Type 0 where
  pub size : r.size ≤ largest_size
  pub advance : r.advance ≤ 8000
  pub ruby : r.ruby ≤ most_ruby

pub and_left : (a b : Bool) → a && b ≡ true → a ≡ true
and_left a b e = ((and-eq-true_iff a b).0 e).0

pub and_right : (a b : Bool) → a && b ≡ true → b ≡ true
and_right a b e = ((and-eq-true_iff a b).0 e).1

advance_bound : (k : AdvanceKind) (s a : ℕ) → advance_fits k s a ≡ true → a ≤ 2 * s
advance_bound half_size s a e = omega (arith, eqb-true a (s / 2) e)
advance_bound to_size s a e = omega (arith, within_high 1 s a e)
advance_bound to_twice s a e = omega (arith, within_high 1 (2 * s) a e)
advance_bound full_size s a e = omega (arith, eqb-true a s e)

-- what is asked of a record of a group
pub asked_in_group : (c g n : ℕ) → group_ok c g n ≡ true → eqb g 0 ≡ false →
    (within 1 most_ruby n ≡ true) × (is_in c group_classes ≡ true)
unfolding group_ok
asked_in_group c g n e z =
    let both = (and-eq-true_iff (leb g highest_group && within 1 most_ruby n) (is_in c group_classes)).0 (rw z at e) in
    (and_right (leb g highest_group) (within 1 most_ruby n) both.0, both.1)

ruby_bound : (c g n : ℕ) → group_ok c g n ≡ true → n ≤ most_ruby
unfolding group_ok
ruby_bound c g n e =
    elim (cases_Bool (eqb g 0)) [
      | inl z ↦ omega (arith, eqb-true n 0 (rw z at e))
      | inr z ↦ within_high 1 most_ruby n (asked_in_group c g n e z).0
    ]

-- what is asked of a record's class, size, advance and group
pub record Asked (r : Rec) : Type 0 where
  pub class : class_ok r.class ≡ true
  pub size : size_ok r.size ≡ true
  pub advance : advance_ok r.class r.size r.advance ≡ true
  pub group : group_ok r.class r.group r.ruby ≡ true

pub asked : (r : Rec) → rec_ok r ≡ true → Asked r
unfolding rec_ok
asked r e =
    let g = (and-eq-true_iff _ (group_ok r.class r.group r.ruby)).0 e in
    let a = (and-eq-true_iff _ (advance_ok r.class r.size r.advance)).0 g.0 in
    let s = (and-eq-true_iff _ (size_ok r.size)).0 a.0 in
    let c = (and-eq-true_iff (code_ok r.code) (class_ok r.class)).0 s.0 in
    record { class = c.1; size = s.1; advance = a.1; group = g.1 }

pub record_bounds : (r : Rec) → rec_ok r ≡ true → RecordBounds r
unfolding advance_ok
record_bounds r e =
    let q = asked r e in
    let a = advance_bound (advance_kind r.class) r.size r.advance q.advance in
    let n = ruby_bound r.class r.group r.ruby q.group in
    omega (arith, (size_bounds r.size q.size).most)

-- and what its neighbours see of it
pub side_ok : (r : Rec) → rec_ok r ≡ true → SideOk (side_by r)
unfolding side_by class_ok classes
side_ok r e =
    let q = asked r e in
    elim (cases_Bool (eqb r.group 0)) [
      | inl z ↦ record { class = rw z q.class; size = q.size }
      | inr z ↦ record { class = rw z; size = q.size }
    ]

-- where answer 8 does not apply, each record keeps its rules
pub records_ok : (i : ℕ) (rs : List Rec) → bad_record i rs ≡ None → (k : ℕ) (r : Rec) (qs : List Rec) →
    drop k rs ≡ r ∷ qs → rec_ok r ≡ true
unfolding bad_record
records_ok i rs h = passes_at rec_ok (none_fails rec_ok i rs h)

-- a number that is no class's is none of the classes that ruby stands over
pub no_class_group : (c g n : ℕ) → ((class : Class) → number_of class ≢ c) → g ≢ 0 → false ≡ group_ok c g n
unfolding group_ok
no_class_group c g n h z =
    rw (
      ne_eqb g 0 z,
      ne_eqb c 15 (λ q. h Hiragana (sym q)),
      ne_eqb c 16 (λ q. h Katakana (sym q)),
      ne_eqb c 19 (λ q. h Ideographic (sym q)),
      and-false (leb g highest_group && within 1 most_ruby n),
    )
