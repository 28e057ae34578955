-- Ruby place refuses no ruby character of accepted records: a group has at most 16 records, each as wide as its size,
-- which is at most 4,000. Assumes nothing.
use Rattle.std.proofs.Common.{◌≡◌, refl, sym, ◌∙◌, ℕ, suc, ◌*◌, ◌≤◌, ◌<◌, arith, true, List, [], ◌∷◌, inl, inr, None}
use Rattle.std.proofs.Common.{length, drop, le-leb, lt-ltb}
use Rattle.rules.specs.Basics.{whole, joined, link, cut}
use Rattle.rules.specs.Limits.{largest_size, most_ruby, most_grouped, largest_base}
use Rattle.rules.specs.Records.{Rec, bad_record}
use Rattle.rules.specs.Groups.{TextUnit, same_group, group_fault, units, count, advances, base_total, ruby_ok}
use Rattle.rules.specs.Groups.{ruby_place}
use Rattle.rules.specs.Refusals.{judged}
use Rattle.rules.specs.Meanings.{All, all_none, all_more, OneUnit, single, grouped, RubyPlaced}
use Rattle.rules.proofs.Cuts.{cut_joined, units_one}
use Rattle.rules.proofs.All.{all_front, all_back, all_first}
use Rattle.std.proofs.lemmas.Bool.{cases_Bool}
use Rattle.rules.proofs.Judged.{judged_passes}
use Rattle.rules.proofs.GroupLimits.{head_count, units_few}
use Rattle.rules.proofs.Bounds.{within_low}
use Rattle.rules.proofs.GroupedRecords.{Fine, all_fine, Grouped, in_group, has_group}

-- One unit ---------------------------------------------------------------------------------------------------------

abbrev Few : TextUnit → Type 0
Few u = count u ≤ most_grouped

abbrev FineUnit : TextUnit → Type 0
FineUnit u = All Fine (whole u)

-- every record of a unit whose first one is of a group
all_grouped : {u : TextUnit} → OneUnit u → FineUnit u → (u.first.group ≡ 0 → ⊥) → All Grouped (whole u)
all_grouped {u} (single e) (all_more f fs) n = all_more {bs = u.rest} (in_group u.first f n) (rw e all_none)
all_grouped {u} (grouped m hs) (all_more f fs) n = all_more (in_group u.first f n) (others hs fs)
  where
    others : {rs : List Rec} → All (λ r. r.group ≡ u.first.group) rs → All Fine rs → All Grouped rs
    others all_none all_none = all_none
    others (all_more {a = r} h hs) (all_more f fs) = all_more (in_group r f (λ z. n (sym h ∙ z))) (others hs fs)

sum_high : {rs : List Rec} → All Grouped rs → advances rs ≤ largest_size * length rs
unfolding advances
sum_high all_none = omega arith
sum_high (all_more h hs) = omega (arith, h.high, sum_high hs)

unit_placed : (u : TextUnit) → OneUnit u → FineUnit u → Few u → RubyPlaced u
unfolding ruby_place
unit_placed u one fine few =
    record {
      some_ruby = λ n. within_low 1 most_ruby u.first.ruby (all_first (all_grouped one fine n)).ruby;
      within_limits = limits;
      offset = λ k h. rw (limits k h);
    }
  where
    limits : (k : ℕ) → k < u.first.ruby → ruby_ok (base_total u) u.first.ruby u.first.size k ≡ true
    limits k h =
        let all = all_grouped one fine (has_group u.first (all_first fine) (omega arith)) in
        rw (
          (all_first all).size,
          (all_first all).ruby,
          lt-ltb k u.first.ruby h,
          le-leb 1 (base_total u) (unfold advances in omega (arith, (all_first all).low)),
          le-leb (base_total u) largest_base (omega (arith, sum_high all)),
        )

-- All units --------------------------------------------------------------------------------------------------------

all_joined : (us : List TextUnit) → All Fine (joined us) → All FineUnit us
unfolding joined
all_joined [] h = all_none
all_joined (u ∷ us) h =
    all_more (all_front (whole u) (joined us) h) (all_joined us (all_back (whole u) (joined us) h))

all_few : (rs : List Rec) → ((k : ℕ) → head_count (units (drop k rs)) ≤ most_grouped) → All Few (units rs)
unfolding units cut
all_few [] h = all_none
all_few (r ∷ rs) h = longer (all_few rs (λ k. h (suc k))) (h 0)
  where
    longer : {us : List TextUnit} → All Few us → head_count (link same_group r us) ≤ most_grouped →
        All Few (link same_group r us)
    longer all_none b = all_more b all_none
    longer (all_more {a = u} f fs) b =
        elim (cases_Bool (same_group r u.first)) [
          | inl e ↦ rw e (all_more (rw e at b) fs)
          | inr e ↦ rw e (all_more (rw e at b) (all_more f fs))
        ]

all_placed : {us : List TextUnit} → All OneUnit us → All FineUnit us → All Few us → All RubyPlaced us
all_placed all_none all_none all_none = all_none
all_placed (all_more {a = u} o os) (all_more f fs) (all_more c cs) =
    all_more (unit_placed u o f c) (all_placed os fs cs)

-- where answers 8 and 9 do not apply
pub rubies_placed : (rs : List Rec) → bad_record 0 rs ≡ None → group_fault rs ≡ None → All RubyPlaced (units rs)
rubies_placed rs h k =
    let joins_up : joined (units rs) ≡ rs = unfold units in cut_joined same_group rs in
    all_placed (units_one rs) (all_joined (units rs) (rw joins_up (all_fine 0 rs h))) (all_few rs (units_few rs k))

-- and so where the answer is 0
pub accepted_placed : (m x : ℕ) (rs : List Rec) → (judged m x rs).number ≡ 0 → All RubyPlaced (units rs)
accepted_placed m x rs e =
    let p = judged_passes m x rs 0 refl e in
    rubies_placed rs p.records p.groups
