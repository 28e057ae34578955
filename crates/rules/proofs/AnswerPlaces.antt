-- Answers 9 and 10 name the place of a record, as 8 and 12 do by `fails_within` of FirstFailing.antt. Assumes nothing.
use Rattle.std.proofs.Common.{◌≡◌, sym, ap, ◌∙◌, List, [], ◌∷◌, ◌++◌, inl, inr, Some, ℕ, suc, ◌+◌, ◌<◌, arith, length}
use Rattle.rules.specs.Basics.{joined}
use Rattle.rules.specs.Records.{Rec}
use Rattle.rules.specs.Groups.{same_group, may_follow, bad_group, group_fault, units, counts}
use Rattle.rules.specs.Breaks.{forbidden_between, runs, no_breaking}
use Rattle.rules.proofs.Cuts.{cut_joined, joined_append}
use Rattle.rules.proofs.NoBreaking.{counts_append, place_of_10}
use Rattle.rules.proofs.WordCounts.{counts_units}
use Rattle.std.proofs.lemmas.Bool.{cases_Bool}
use Rattle.std.proofs.lemmas.Option.{same_Some, none-some}

-- counted from i, where p is the n-th record of its group
pub group_within : (i n j : ℕ) (p : Rec) (rs : List Rec) → bad_group i n p rs ≡ Some j → j < i + length rs
unfolding bad_group
group_within i n j p [] e = absurd (none-some _ e)
group_within i n j p (r ∷ rs) e =
    elim (cases_Bool (same_group p r)) [
      | inr z ↦ omega (arith, group_within (suc i) 1 j r rs (rw (z, bad_group) at e))
      | inl z ↦
          elim (cases_Bool (may_follow n p r)) [
            | inl y ↦ omega (arith, group_within (suc i) (suc n) j r rs (rw (z, y, bad_group) at e))
            | inr y ↦ let q : i ≡ j = same_Some _ _ (rw (z, y, bad_group) at e) in omega arith
          ]
    ]

pub fault_within : (j : ℕ) (rs : List Rec) → group_fault rs ≡ Some j → j < length rs
unfolding group_fault
fault_within j [] e = absurd (none-some _ e)
fault_within j (r ∷ rs) e = omega (arith, group_within 1 1 j r rs e)

pub wide_within : (m x j : ℕ) (rs : List Rec) → no_breaking m x (units rs) ≡ Some j → j < length rs
unfolding runs joined counts
wide_within m x j rs e =
    let w = place_of_10 m x (units rs) j e in
    let a : joined w.before ++ joined (w.run ∷ w.after) ≡ units rs =
    sym (joined_append w.before (w.run ∷ w.after))
    ∙ ap (λ ls. joined ls) w.all ∙ cut_joined forbidden_between (units rs) in
    let n : counts (joined w.before) + counts (joined (w.run ∷ w.after)) ≡ length rs =
    sym (counts_append (joined w.before) (joined (w.run ∷ w.after))) ∙ ap (λ us. counts us) a ∙ counts_units rs in
    omega (arith, n, w.place)
