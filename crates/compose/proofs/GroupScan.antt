-- Answer 9 from the right: a record put before others keeps the rules of groups, and so do the records from one on,
-- where all do. Assumes nothing.
use Rattle.std.proofs.Common.{◌≡◌, sym, refl, ℕ, zero, suc, ◌+◌, ◌≤◌, arith, true, false, ◌&&◌, List, [], ◌∷◌, inl, inr}
use Rattle.std.proofs.Common.{Option, None, Some, ltb, drop, lt-ltb}
use Rattle.rules.specs.Limits.{most_grouped}
use Rattle.rules.specs.Records.{Rec}
use Rattle.rules.specs.Groups.{same_group, bad_group, group_fault}
use Rattle.std.proofs.lemmas.Bool.{cases_Bool}
use Rattle.std.proofs.lemmas.Option.{none-some}
use Rattle.compose.specs.Scan.{alike}
use Rattle.compose.proofs.GroupFaults.{fault_less}

-- a record p, with which a unit of c records starts, and those after it: with up to 16 - c of its group before it the
-- rules of groups are kept
pub Keeps : ℕ → Rec → List Rec → Type 0
Keeps c p rs = (i n : ℕ) → n + c ≤ most_grouped + 1 → bad_group i n p rs ≡ None

pub keeps_last : (p : Rec) → Keeps 1 p []
unfolding Keeps bad_group
keeps_last p i n h = refl

pub keeps_apart : (p r : Rec) (rs : List Rec) → same_group p r ≡ false → group_fault (r ∷ rs) ≡ None →
    Keeps 1 p (r ∷ rs)
unfolding Keeps bad_group group_fault
keeps_apart p r rs e g i n h = rw (bad_group, e) (fault_less 1 (suc i) 1 1 r rs (omega arith) g)

pub keeps_more : (c : ℕ) (p r : Rec) (rs : List Rec) → same_group p r ≡ true → alike p r ≡ true → 1 ≤ c → Keeps c r rs →
    Keeps (suc c) p (r ∷ rs)
unfolding Keeps bad_group
keeps_more c p r rs e a l k i n h =
    rw (bad_group, e, a, lt-ltb n most_grouped (omega arith)) (k (suc i) (suc n) (omega arith))

pub keeps_all : (c : ℕ) (p : Rec) (rs : List Rec) → c ≤ most_grouped → Keeps c p rs → group_fault (p ∷ rs) ≡ None
unfolding Keeps group_fault
keeps_all c p rs l k = k 1 1 (omega arith)

-- without its first record a list keeps the rules of groups
fault_tail : (p : Rec) (rs : List Rec) → group_fault (p ∷ rs) ≡ None → group_fault rs ≡ None
unfolding group_fault bad_group
fault_tail p [] h = refl
fault_tail p (r ∷ rs) h =
    elim (cases_Bool (same_group p r)) [
      | inr e ↦ fault_less 2 1 1 1 r rs (omega arith) (rw (bad_group, e) at h)
      | inl e ↦
          elim (cases_Bool (alike p r && ltb 1 most_grouped)) [
            | inl d ↦ fault_less 2 1 2 1 r rs (omega arith) (rw (bad_group, e, d) at h)
            | inr d ↦
                let f : ◌≡◌ {A = Option ℕ} (Some 1) None = rw (bad_group, e, d) at h in
                absurd (none-some _ (sym f))
          ]
    ]

pub fault_drop : (k : ℕ) (rs : List Rec) → group_fault rs ≡ None → group_fault (drop k rs) ≡ None
fault_drop zero rs h = h
fault_drop (suc k) [] h = h
fault_drop (suc k) (r ∷ rs) h = fault_drop k rs (fault_tail r rs h)
