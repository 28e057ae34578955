-- docs/RULES.md, "Which characters a class has": of accepted records, no line but the first opens with a character that
-- is listed only under classes that start no line. Assumes nothing.
use Rattle.std.proofs.Common.{◌≡◌, refl, sym, ℕ, Bool, true, not, ◌&&◌, ◌||◌, List, [], ◌∷◌, inl, inr, eqb, eqb-true}
use Rattle.std.proofs.Math.Bool.{and-eq-true_iff}
use Rattle.lists.specs.Ranges.{has_code}
use Rattle.lists.specs.Lists.{ClassList, list, lists, in_lists, in_list}
use Rattle.lists.proofs.Claims.{in_list_means}
use Rattle.rules.specs.Basics.{is_in, joined}
use Rattle.rules.specs.Records.{Rec, group_classes}
use Rattle.rules.specs.Sides.{Side, side_by, not_at_line_start, forbidden}
use Rattle.rules.specs.Groups.{TextUnit, same_group, units, side}
use Rattle.rules.specs.Breaks.{forbidden_between, runs, breaking}
use Rattle.rules.specs.Refusals.{judged}
use Rattle.rules.specs.Meanings.{All, all_none, all_more, Apart, Listed, NeverOpens, starts_with}
use Rattle.std.proofs.lemmas.Bool.{cases_Bool, true≢false}
use Rattle.rules.proofs.Judged.{judged_passes}
use Rattle.rules.proofs.Listed.{all_listed}
use Rattle.rules.proofs.CutParts.{apart_where}
use Rattle.rules.proofs.All.{all_back}
use Rattle.rules.proofs.Cuts.{cut_joined}
use Rattle.rules.proofs.ComputedTables.{all_at}
use Rattle.rules.proofs.RecordLimits.{asked, asked_in_group}
use Rattle.rules.proofs.GroupedRecords.{Fine, all_fine}
use Rattle.rules.proofs.Breaking.{breaking_choice}

-- each list that has k is of a class that starts no line
abbrev pub all_not_at_start : ℕ → List ClassList → Bool
all_not_at_start k [] = true
all_not_at_start k (list c rs ∷ ls) = (not (has_code k rs) || not_at_line_start c) && all_not_at_start k ls

not_at_start_in : (c k : ℕ) (ls : List ClassList) → all_not_at_start k ls ≡ true → in_lists c k ls ≡ true →
    not_at_line_start c ≡ true
not_at_start_in c k [] e h = absurd (true≢false (sym h))
not_at_start_in c k (list n rs ∷ ls) e h =
    let both = (and-eq-true_iff (not (has_code k rs) || not_at_line_start n) (all_not_at_start k ls)).0 e in
    elim (cases_Bool (eqb c n && has_code k rs)) [
      | inl e ↦
          let q = (and-eq-true_iff (eqb c n) (has_code k rs)).0 e in
          rw (eqb-true c n q.0) (rw q.1 at both.0)
      | inr e ↦ not_at_start_in c k ls both.1 (rw e at h)
    ]

pub never_opens_by : (k : ℕ) → all_not_at_start k lists ≡ true → NeverOpens k
unfolding in_list
never_opens_by k e c b = not_at_start_in c k lists e ((in_list_means c k).1 b)

-- the comma that opened a line
pub comma_not_at_start : NeverOpens 0x3001
unfolding lists
comma_not_at_start = never_opens_by 0x3001 refl

-- a break before such a class is forbidden, whatever stands on its left
bars : (l r : Side) → not_at_line_start r.class ≡ true → forbidden l r ≡ true
unfolding forbidden
bars l r e = rw e

-- the classes of groups may start a line
groups_open : (c : ℕ) → is_in c group_classes ≡ true → not_at_line_start c ≡ true → ⊥
groups_open c e b =
    true≢false (sym (rw b at (all_at (λ k. not (not_at_line_start k)) group_classes refl c e)))

-- so a record of a class that starts no line is in no group, and counts as its own class
ungrouped : (r : Rec) → Fine r → not_at_line_start r.class ≡ true → eqb r.group 0 ≡ true
ungrouped r f b =
    elim (cases_Bool (eqb r.group 0)) [
      | inl e ↦ e
      | inr e ↦
          let p = asked_in_group r.class r.group r.ruby (asked r f).group e in
          absurd (groups_open r.class p.1 b)
    ]

-- a record that keeps its rules and is listed
pub record Kept (r : Rec) : Type 0 where
  pub fine : Fine r
  pub listed : Listed r

opening_forbidden : (k : ℕ) → NeverOpens k → (u v : TextUnit) → Kept v.first → starts_with k u v ≡ true →
    forbidden_between u v ≡ true
unfolding side_by
opening_forbidden k n u v h e =
    let r = v.first in
    let b = n r.class (rw (eqb-true r.code k e) at h.listed) in
    bars (side u) (side v) (rw (ungrouped r h.fine b) b)

-- what is so of every record is so of every unit's first
firsts : {P : Rec → Type 0} (us : List TextUnit) → All P (joined us) → All (λ u. P u.first) us
unfolding joined
firsts [] h = all_none
firsts (u ∷ us) (all_more p h) = all_more p (firsts us (all_back u.rest (joined us) h))

all_kept : {rs : List Rec} → All Fine rs → All Listed rs → All Kept rs
all_kept all_none all_none = all_none
all_kept (all_more f fs) (all_more l ls) = all_more (record { fine = f; listed = l }) (all_kept fs ls)

pub no_line_opens : (k m x : ℕ) (rs : List Rec) → NeverOpens k → (judged m x rs).number ≡ 0 →
    Apart (starts_with k) (breaking m x (runs (units rs)))
no_line_opens k m x rs n z =
    let p = judged_passes m x rs 0 refl z in
    let kept = all_kept (all_fine 0 rs p.records) ((all_listed rs).0 p.listed) in
    let up : joined (units rs) ≡ rs = unfold units in cut_joined same_group rs in
    let c = breaking_choice m x (units rs) in
    apart_where forbidden_between (starts_with k) (opening_forbidden k n)
    (rw c.joins_up (firsts (units rs) (rw up kept))) c.permitted
