-- A paragraph's units and runs, one after the other, as the loops meet them. Assumes nothing.
use Rattle.std.proofs.Common.{◌≡◌, refl, ap, sym, ◌∙◌, ℕ, suc, ◌+◌, ◌-◌, ◌≤◌, ◌<◌, arith, zero-add, add-zero, Bool}
use Rattle.std.proofs.Common.{cond, List, [], ◌∷◌, ◌++◌, inl, inr, length, drop, length-append, drop_at}
use Rattle.rules.specs.Basics.{Run, alone, whole, extended, joined, link, cut}
use Rattle.rules.specs.Records.{rec_at, records}
use Rattle.rules.specs.Groups.{TextUnit, same_group, units, count, counts}
use Rattle.rules.specs.Breaks.{forbidden_between, runs}
use Rattle.std.proofs.lemmas.Bool.{cases_Bool, cases_lt}
use Rattle.rules.proofs.Decisions.{nil_cons}
use Rattle.rules.proofs.RecordWords.{length_records, drop_records}
use Rattle.rules.proofs.Cuts.{cut_joined, cut_first, cut_tail}
use Rattle.compose.specs.Paragraph.{record_count, paragraph, units_from, head_or, unit_at, next_at}

-- the records from i on
pub records_left : (ws : List ℕ) (i : ℕ) → i ≤ record_count ws →
    drop i (paragraph ws) ≡ records ws i (record_count ws - i)
records_left ws i h = rw zero-add at (drop_records ws 0 (record_count ws) i h)

module _ (ws : List ℕ) (i : ℕ) (h : i < record_count ws) where
  pub records_from : records ws i (record_count ws - i) ≡ rec_at ws i ∷ records ws (i + 1) (record_count ws - (i + 1))
  unfolding records
  records_from =
      let e : record_count ws - i ≡ suc (record_count ws - (i + 1)) = omega arith in
      let f : suc i ≡ i + 1 = omega arith in
      rw (e, records, f)

  pub records_at : drop i (paragraph ws) ≡ rec_at ws i ∷ records ws (i + 1) (record_count ws - (i + 1))
  records_at = records_left ws i (omega arith) ∙ records_from

-- units ----------------------------------------------------------------------------------------------------------

pub from_end : (ws : List ℕ) (i : ℕ) → record_count ws ≤ i → units_from ws i ≡ []
unfolding units_from records units cut
from_end ws i h = let e : record_count ws - i ≡ 0 = omega arith in rw e

-- with one record more at the front
from_link : (ws : List ℕ) (i : ℕ) → i < record_count ws →
    units_from ws i ≡ link same_group (rec_at ws i) (units_from ws (i + 1))
unfolding units_from units cut
from_link ws i h = rw (records_from ws i h)

-- the unit that starts with record i, and what follows it
pub record UnitStep (ws : List ℕ) (i : ℕ) : Type 0 where
  pub first : (unit_at ws i).first ≡ rec_at ws i
  pub rest : units_from ws i ≡ unit_at ws i ∷ units_from ws (next_at ws i)
  pub within : next_at ws i ≤ record_count ws

unit_is : (ws : List ℕ) (i : ℕ) → unit_at ws i ≡ head_or (alone (rec_at ws i)) (units_from ws i)
unfolding unit_at
unit_is ws i = refl

pub unit_step : (ws : List ℕ) (i : ℕ) → i < record_count ws → UnitStep ws i
unfolding units_from units joined
unit_step ws i h =
    let f = cut_first same_group (rec_at ws i) (records ws (i + 1) (record_count ws - (i + 1))) in
    let u = f.0 in
    let us = f.1 in
    let e : units_from ws i ≡ u ∷ us = ap (λ rs. cut same_group rs) (records_from ws i h) ∙ f.2 in
    let j : whole u ++ joined us ≡ records ws i (record_count ws - i) =
    sym (ap (λ ls. joined ls) e) ∙ cut_joined same_group (records ws i (record_count ws - i)) in
    let n : count u + length (joined us) ≡ record_count ws - i =
    sym (length-append (whole u) (joined us)) ∙ ap length j ∙ length_records ws i (record_count ws - i) in
    let d : joined us ≡ records ws (i + count u) (record_count ws - i - count u) =
    sym (drop_at (whole u) (joined us) (count u) refl) ∙ ap (λ rs. drop (count u) rs) j
    ∙ drop_records ws i (record_count ws - i) (count u) (omega arith) in
    let m : record_count ws - i - count u ≡ record_count ws - (i + count u) = omega arith in
    let v : unit_at ws i ≡ u = rw (unit_is, e) in
    record {
      first = rw v f.3;
      rest =
          rw v
          (e ∙ ap (λ t. u ∷ t) (cut_tail same_group (records ws i (record_count ws - i)) u us e
          ∙ ap (λ rs. cut same_group rs) (rw m at d)));
      within = rw v (omega arith);
    }

link_head : {A : Type 0} (t : A → A → Bool) (a : A) (d l : Run A) (ls : List (Run A)) →
    head_or d (link t a (l ∷ ls)) ≡ cond (t a l.first) (extended (alone a) l) (alone a)
link_head t a d l ls = elim (cases_Bool (t a l.first)) [ inl e ↦ rw e | inr e ↦ rw e ]

-- a unit from record i on, by the one from the next record on
pub unit_last : (ws : List ℕ) (i : ℕ) → i + 1 ≡ record_count ws → unit_at ws i ≡ alone (rec_at ws i)
unit_last ws i h = rw (unit_is, from_link ws i (omega arith), from_end ws (i + 1) (omega arith))

pub unit_more : (ws : List ℕ) (i : ℕ) → i + 1 < record_count ws →
    unit_at ws i ≡
    cond (same_group (rec_at ws i) (rec_at ws (i + 1))) (extended (alone (rec_at ws i)) (unit_at ws (i + 1)))
    (alone (rec_at ws i))
unit_more ws i h =
    let s = unit_step ws (i + 1) h in
    rw (unit_is ws i, from_link ws i (omega arith), s.rest, link_head, s.first)

-- units after others, and runs ---------------------------------------------------------------------------------------

-- after some units stand those of the records after them
pub from_after : (ws : List ℕ) (i : ℕ) (us vs : List TextUnit) → i ≤ record_count ws → us ++ vs ≡ units_from ws i →
    (vs ≡ units_from ws (i + counts us)) × (i + counts us ≤ record_count ws)
unfolding counts
from_after ws i [] vs h e = (rw add-zero e, omega arith)
from_after ws i (u ∷ us) vs h e =
    elim (cases_lt i (record_count ws)) [
      | inl g ↦
          let s = unit_step ws i g in
          let p : u ≡ unit_at ws i = cc in
          let q : us ++ vs ≡ units_from ws (next_at ws i) = cc in
          let r = from_after ws (next_at ws i) us vs s.within q in
          let n : next_at ws i + counts us ≡ i + (count u + counts us) = rw p (omega arith) in
          rw n at r
      | inr g ↦ absurd (nil_cons (sym (e ∙ from_end ws i g)))
    ]

pub runs_end : (ws : List ℕ) (i : ℕ) → record_count ws ≤ i → runs (units_from ws i) ≡ []
unfolding runs cut
runs_end ws i h = rw (from_end ws i h)

-- where a record is left, a run is
pub runs_some : (ws : List ℕ) (i : ℕ) → i < record_count ws →
    (l : Run TextUnit) × (ls : List (Run TextUnit)) × (runs (units_from ws i) ≡ l ∷ ls)
unfolding runs
runs_some ws i h =
    let f = cut_first forbidden_between (unit_at ws i) (units_from ws (next_at ws i)) in
    (f.0, f.1, ap (λ us. cut forbidden_between us) (unit_step ws i h).rest ∙ f.2)
