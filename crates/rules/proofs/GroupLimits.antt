-- Bounds: what answers 8 and 9 leave of units. Assumes nothing.
use Rattle.std.proofs.Common.{◌≡◌, sym, ℕ, zero, suc, ◌+◌, ◌≤◌, arith, cond, ◌&&◌, List, [], ◌∷◌, inl, inr, None, Some}
use Rattle.std.proofs.Common.{ltb, eqb, drop, ltb-true}
use Rattle.rules.specs.Basics.{cut}
use Rattle.rules.specs.Limits.{largest_size, most_ruby, most_grouped, largest_advance}
use Rattle.rules.specs.Records.{Rec}
use Rattle.rules.specs.Groups.{TextUnit, same_group, may_follow, bad_group, group_fault, units, count, group_advance}
use Rattle.rules.proofs.Bounds.{ruby_total_small}
use Rattle.rules.proofs.Cuts.{cut_first}
use Rattle.std.proofs.lemmas.Bool.{cases_Bool}
use Rattle.std.proofs.lemmas.Option.{none-some}
use Rattle.rules.proofs.RecordLimits.{and_right}

-- the number of records of the first unit
abbrev pub head_count : List TextUnit → ℕ
head_count [] = 0
head_count (u ∷ us) = count u

head_link : (p r : Rec) (rs : List Rec) →
    head_count (units (p ∷ r ∷ rs)) ≡ cond (same_group p r) (suc (head_count (units (r ∷ rs)))) 1
unfolding units cut
head_link p r rs =
    let f = cut_first same_group r rs in
    elim (cases_Bool (same_group p r)) [ inl e ↦ rw (f.2, f.3, e) | inr e ↦ rw (f.2, f.3, e) ]

none_left : (k : ℕ) → head_count (units (drop k [])) ≤ most_grouped
unfolding units cut
none_left zero = omega arith
none_left (suc k) = omega arith

-- p is the n-th record of its group: its unit has at most 16 − n more, and no unit from p on has more than 16
record FewFrom (n : ℕ) (p : Rec) (rs : List Rec) : Type 0 where
  pub here : n + head_count (units (p ∷ rs)) ≤ 17
  pub each : (k : ℕ) → head_count (units (drop k (p ∷ rs))) ≤ most_grouped

few_from : (n : ℕ) (p : Rec) (rs : List Rec) → 1 ≤ n → n + head_count (units (p ∷ rs)) ≤ 17 →
    ((k : ℕ) → head_count (units (drop k rs)) ≤ most_grouped) → FewFrom n p rs
few_from n p rs a h later = record { here = h; each = from }
  where
    from : (k : ℕ) → head_count (units (drop k (p ∷ rs))) ≤ most_grouped
    from zero = omega arith
    from (suc k) = later k

-- where answer 9 does not apply
group_few : (i n : ℕ) (p : Rec) (rs : List Rec) → 1 ≤ n → n ≤ most_grouped → bad_group i n p rs ≡ None → FewFrom n p rs
unfolding bad_group
group_few i n p [] a b h = few_from n p [] a (unfold units cut in omega arith) none_left
group_few i n p (r ∷ rs) a b h =
    let alike = eqb p.size r.size && eqb p.ruby r.ruby in
    elim (cases_Bool (same_group p r)) [
      | inl e ↦
          elim (cases_Bool (may_follow n p r)) [
            | inl d ↦
                let k = ltb-true n most_grouped (and_right alike (ltb n most_grouped) d) in
                let g = group_few (suc i) (suc n) r rs (omega arith) k (rw (e, d, bad_group) at h) in
                few_from n p (r ∷ rs) a (rw (head_link, e) (omega arith)) g.each
            | inr d ↦ let f : Some i ≡ None = rw (e, d, bad_group) at h in absurd (none-some _ (sym f))
          ]
      | inr e ↦
          let g = group_few (suc i) 1 r rs (omega arith) (omega arith) (rw (e, bad_group) at h) in
          few_from n p (r ∷ rs) a (rw (head_link, e) (omega arith)) g.each
    ]

-- no unit, from any record on, has more than 16 records
pub units_few : (rs : List Rec) → group_fault rs ≡ None → (k : ℕ) → head_count (units (drop k rs)) ≤ most_grouped
unfolding group_fault
units_few [] h k = none_left k
units_few (r ∷ rs) h k = (group_few 1 1 r rs (omega arith) (omega arith) h).each k

-- the advance of a unit of at most 16 records, and of its ruby
pub advance_bound_of : (base n s : ℕ) → base ≤ largest_advance → n ≤ most_ruby → s ≤ largest_size →
    group_advance base n s ≤ largest_advance
unfolding group_advance
advance_bound_of base n s b h k = omega (arith, ruby_total_small n s h k)
