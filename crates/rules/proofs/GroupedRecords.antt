-- Bounds: what answer 8 leaves of a record of a group. Assumes nothing.
use Rattle.std.proofs.Common.{◌≡◌, ℕ, ◌≤◌, ◌<◌, arith, true, List, None, eqb-true, ne_eqb}
use Rattle.rules.specs.Basics.{within, is_in}
use Rattle.rules.specs.Limits.{largest_size, most_ruby}
use Rattle.rules.specs.Records.{Rec, group_classes, size_ok, advance_kind, advance_ok, group_ok, rec_ok, bad_record}
use Rattle.rules.specs.Meanings.{All, all_none, all_more}
use Rattle.rules.proofs.FirstFailing.{none_fails}
use Rattle.rules.proofs.Bounds.{size_bounds}
use Rattle.rules.proofs.ComputedTables.{holds_in}
use Rattle.rules.proofs.RecordLimits.{asked, asked_in_group}

abbrev pub Fine : Rec → Type 0
Fine r = rec_ok r ≡ true

pub all_fine : (i : ℕ) (rs : List Rec) → bad_record i rs ≡ None → All Fine rs
unfolding bad_record
all_fine i rs h = none_fails rec_ok i rs h

-- classes 15, 16 and 19 are as wide as their size
as_wide : (c s a : ℕ) → is_in c group_classes ≡ true → advance_ok c s a ≡ true → a ≡ s
unfolding advance_ok advance_kind
as_wide c s a e h =
    let f = eqb-true a s in
    holds_in {P = λ k. advance_ok k s a ≡ true → a ≡ s} (all_more f (all_more f (all_more f all_none))) c e h

pub record Grouped (r : Rec) : Type 0 where
  pub size : size_ok r.size ≡ true
  pub ruby : within 1 most_ruby r.ruby ≡ true
  pub low : 1 ≤ r.advance
  pub high : r.advance ≤ largest_size

pub in_group : (r : Rec) → Fine r → (r.group ≡ 0 → ⊥) → Grouped r
in_group r e h =
    let a = asked r e in
    let p = asked_in_group r.class r.group r.ruby a.group (ne_eqb r.group 0 h) in
    let s = size_bounds r.size a.size in
    let full = as_wide r.class r.size r.advance p.1 a.advance in
    record {
      size = a.size;
      ruby = p.0;
      low = omega (arith, s.least);
      high = omega (arith, s.most);
    }

-- a record with ruby is of a group
pub has_group : (r : Rec) → Fine r → 0 < r.ruby → r.group ≡ 0 → ⊥
unfolding group_ok
has_group r e h z = omega (arith, eqb-true r.ruby 0 (rw z at (asked r e).group))
