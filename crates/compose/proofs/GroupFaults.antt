-- Answer 9 over two lists that meet between groups. Assumes nothing.
use Rattle.std.proofs.Common.{◌≡◌, sym, refl, ℕ, suc, ◌≤◌, arith, false, ◌&&◌, List, [], ◌∷◌, ◌++◌, append-nil}
use Rattle.std.proofs.Common.{inl, inr, ◌↔◌, None, Some, ltb, ltb-true, lt-ltb}
use Rattle.rules.specs.Limits.{most_grouped}
use Rattle.rules.specs.Records.{Rec}
use Rattle.rules.specs.Groups.{same_group, bad_group, group_fault}
use Rattle.rules.specs.Meanings.{last_of}
use Rattle.std.proofs.lemmas.Bool.{cases_Bool}
use Rattle.std.proofs.lemmas.Option.{none-some}
use Rattle.rules.proofs.RecordLimits.{and_left, and_right}
use Rattle.compose.specs.Scan.{alike}

-- a record of no group is not joined to the one before it
pub no_group : (p r : Rec) → r.group ≡ 0 → same_group p r ≡ false
no_group p r z = rw z

-- a record that is an earlier one of its group leaves more room; how records are counted does not matter
pub fault_less : (i j n k : ℕ) (p : Rec) (rs : List Rec) → k ≤ n → bad_group i n p rs ≡ None → bad_group j k p rs ≡ None
unfolding bad_group
fault_less i j n k p [] l h = refl
fault_less i j n k p (r ∷ rs) l h =
    elim (cases_Bool (same_group p r)) [
      | inr e ↦ rw (bad_group, e) (fault_less (suc i) (suc j) 1 1 r rs (omega arith) (rw (bad_group, e) at h))
      | inl e ↦
          elim (cases_Bool (alike p r && ltb n most_grouped)) [
            | inl d ↦
                let a = and_left (alike p r) (ltb n most_grouped) d in
                let b =
                lt-ltb k most_grouped
                (omega (arith, ltb-true n most_grouped (and_right (alike p r) (ltb n most_grouped) d))) in
                rw (bad_group, e, a, b)
                (fault_less (suc i) (suc j) (suc n) (suc k) r rs (omega arith) (rw (bad_group, e, d) at h))
            | inr d ↦ let f : Some i ≡ None = rw (bad_group, e, d) at h in absurd (none-some _ (sym f))
          ]
    ]

-- where two lists meet between groups, both keep the rules of groups together if each does
seam : (i n : ℕ) (p : Rec) (rs : List Rec) (y : Rec) (ys : List Rec) → same_group (last_of p rs) y ≡ false →
    (bad_group i n p (rs ++ y ∷ ys) ≡ None) ↔ ((bad_group i n p rs ≡ None) × (bad_group 1 1 y ys ≡ None))
unfolding bad_group
seam i n p [] y ys e =
    rw (bad_group, e) (
      λ h. (refl, fault_less (suc i) 1 1 1 y ys (omega arith) h),
      λ h. fault_less 1 (suc i) 1 1 y ys (omega arith) h.1,
    )
seam i n p (r ∷ rs) y ys e =
    elim (cases_Bool (same_group p r)) [
      | inr f ↦ rw (bad_group, f) (seam (suc i) 1 r rs y ys e)
      | inl f ↦
          elim (cases_Bool (alike p r && ltb n most_grouped)) [
            | inl d ↦ rw (bad_group, f, d) (seam (suc i) (suc n) r rs y ys e)
            | inr d ↦ rw (bad_group, f, d) (λ h. absurd (none-some _ (sym h)), λ h. absurd (none-some _ (sym h.0)))
          ]
    ]

pub data Meet : List Rec → List Rec → Type 0 where
  meet_first : {rs : List Rec} → Meet [] rs
  meet_last : {rs : List Rec} → Meet rs []
  meet_apart : {p : Rec} {ps : List Rec} {q : Rec} {qs : List Rec} → same_group (last_of p ps) q ≡ false →
      Meet (p ∷ ps) (q ∷ qs)

pub fault_meet : {ps qs : List Rec} → Meet ps qs →
    (group_fault (ps ++ qs) ≡ None) ↔ ((group_fault ps ≡ None) × (group_fault qs ≡ None))
unfolding group_fault
fault_meet meet_first = (λ h. (refl, h), λ h. h.1)
fault_meet (meet_last {rs}) = rw append-nil (λ h. (h, refl), λ h. h.0)
fault_meet (meet_apart {p} {ps} {q} {qs} e) = seam 1 1 p ps q qs e
