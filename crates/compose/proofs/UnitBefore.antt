-- The walk of `unit_before` from the record after a unit to its first record, and where it says that answer 8, 12
-- or 9 applies. Assumes nothing.
use Rattle.std.proofs.Common.{◌≡◌, ap, sym, ◌∙◌, ℕ, suc, ◌+◌, ◌*◌, ◌-◌, ◌≤◌, ◌<◌, arith, zero-add, Bool, true, false}
use Rattle.std.proofs.Common.{List, inl, inr, take, drop, take-add}
use Rattle.std.proofs.Math.Nat.{sub-zero}
use Rattle.rules.specs.Limits.{most_grouped}
use Rattle.rules.specs.Basics.{alone, extended}
use Rattle.rules.specs.Records.{Rec, rec_at, records}
use Rattle.rules.specs.Groups.{same_group, bad_group, group_fault, units, count, advances}
use Rattle.rules.specs.Meanings.{all_more}
use Rattle.std.proofs.lemmas.Bool.{cases_lt}
use Rattle.std.proofs.lemmas.Option.{none-some}
use Rattle.rules.proofs.All.{all_first, all_back}
use Rattle.rules.proofs.RecordLimits.{record_bounds}
use Rattle.rules.proofs.GroupLimits.{head_count, units_few}
use Rattle.compose.specs.Limits.{largest_own_advance}
use Rattle.compose.specs.Paragraph.{record_count, paragraph, units_from, unit_at, Checked}
use Rattle.compose.specs.Scan.{Fine, KnownFine, alike, Scanning, UnitOf, UnitBefore}
use Rattle.compose.proofs.UnitsFrom.{records_from, records_left, records_at, unit_step, unit_last, unit_more}
use Rattle.compose.proofs.Checked.{checked_fine}
use Rattle.compose.proofs.Limits.{record_fine}
use Rattle.compose.proofs.Faults.{records_end}
use Rattle.compose.proofs.GroupFaults.{no_group}
use Rattle.compose.proofs.GroupScan.{Keeps, keeps_last, keeps_apart, keeps_more, keeps_all, fault_drop}

-- where answers 8, 12 and 9 do not apply -------------------------------------------------------------------------

module _ {ws : List ℕ} (c : Checked ws) (j : ℕ) where
  clean_fine : j < record_count ws → Fine (rec_at ws j)
  clean_fine h = record_fine ws 0 (rw sub-zero (checked_fine c)) j (omega arith) h

  clean_alike : j + 1 < record_count ws → same_group (rec_at ws j) (rec_at ws (j + 1)) ≡ true →
      alike (rec_at ws j) (rec_at ws (j + 1)) ≡ false → ⊥
  unfolding group_fault bad_group
  clean_alike h e a =
      let g = rw (records_at ws j (omega arith), records_from ws (j + 1) h) at
      (fault_drop j (paragraph ws) c.grouped) in
      none-some _ (sym (rw (group_fault, bad_group, e, a) at g))

  clean_few : j < record_count ws → count (unit_at ws j) ≤ most_grouped
  unfolding units_from
  clean_few h =
      let e : head_count (units (drop j (paragraph ws))) ≡ count (unit_at ws j) =
      ap (λ rs. head_count (units rs)) (records_left ws j (omega arith)) ∙ ap head_count (unit_step ws j h).rest in
      rw e at (units_few (paragraph ws) c.grouped j)

-- a record that is known to keep its own rules
pub known_fine : {ws : List ℕ} {known i : ℕ} → Scanning ws known i → KnownFine ws known
known_fine {ws} {known} s j l h =
    let e : known ≡ j + suc (known - suc j) = omega arith in
    all_first (rw (records_at ws j h) at (all_back (take j (paragraph ws)) _ (rw (e, take-add) at s.known_fine)))

-- the walk ---------------------------------------------------------------------------------------------------------

-- the records from `first` up to i are the unit that starts with `first`, and with those after them keep all rules
pub record Walked (ws : List ℕ) (first i base : ℕ) : Type 0 where
  pub unit : UnitOf ws first i base
  pub grouped : Keeps (i - first) (rec_at ws first) (records ws (first + 1) (record_count ws - (first + 1)))

-- the last record of a unit
module _ {ws : List ℕ} {known i : ℕ} (s : Scanning ws known i) (j : ℕ) (e : i ≡ j + 1) where
  apart : j + 1 < record_count ws → same_group (rec_at ws j) (rec_at ws (j + 1)) ≡ false
  apart h = let d : j + 1 - 1 ≡ j = omega arith in rw d at ((rw e at s.apart) (omega arith) h)

  alone_here : unit_at ws j ≡ alone (rec_at ws j)
  alone_here =
      elim (cases_lt (j + 1) (record_count ws)) [
        | inl h ↦ rw (unit_more ws j h, apart h)
        | inr h ↦ unit_last ws j (omega arith)
      ]

  keeps : Keeps 1 (rec_at ws j) (records ws (j + 1) (record_count ws - (j + 1)))
  keeps =
      elim (cases_lt (j + 1) (record_count ws)) [
        | inr h ↦ rw (records_end ws (j + 1) h) (keeps_last (rec_at ws j))
        | inl h ↦
            rw (records_from ws (j + 1) h)
            (keeps_apart (rec_at ws j) (rec_at ws (j + 1)) _ (apart h)
            (rw (e, records_from ws (j + 1) h) at s.grouped))
      ]

  walked_last : {r : Rec} → r ≡ rec_at ws j → Fine r → Walked ws j i r.advance
  unfolding advances
  walked_last {r} q f =
      let b = record_bounds r f.sound in
      let d : i - j ≡ 1 = omega arith in
      let a : r.advance ≡ (rec_at ws j).advance = rw q in
      record {
        unit =
            record {
              order = omega arith;
              within = s.within;
              few = s.few;
              ends = rw alone_here (omega arith);
              few_records = omega arith;
              base_is = rw alone_here (omega arith);
              light = omega arith;
              fine = rw (records_from ws j (omega arith)) (all_more (rw q at f) (rw e at s.sound));
            };
        grouped = rw d keeps;
      }

-- one record more, of the same group
walked_more : {ws : List ℕ} {i base : ℕ} (j : ℕ) → Walked ws (j + 1) i base → i - (j + 1) < most_grouped →
    same_group (rec_at ws j) (rec_at ws (j + 1)) ≡ true → alike (rec_at ws j) (rec_at ws (j + 1)) ≡ true →
    {r : Rec} → r ≡ rec_at ws j → Fine r → Walked ws j i (base + r.advance)
unfolding advances
walked_more {ws} {i} {base} j w few g a {r} q f =
    let t = w.unit in
    let b = record_bounds r f.sound in
    let u : unit_at ws j ≡ extended (alone (rec_at ws j)) (unit_at ws (j + 1)) = rw (unit_more ws j (omega arith), g) in
    let d : i - j ≡ suc (i - (j + 1)) = omega arith in
    let v : r.advance ≡ (rec_at ws j).advance = rw q in
    record {
      unit =
          record {
            order = omega arith;
            within = t.within;
            few = t.few;
            ends = rw u (omega arith);
            few_records = omega arith;
            base_is = rw u (omega arith);
            light = omega arith;
            fine = rw (records_from ws j (omega arith)) (all_more (rw q at f) t.fine);
          };
      grouped =
          rw (d, records_from ws (j + 1) (omega arith))
          (keeps_more (i - (j + 1)) (rec_at ws j) (rec_at ws (j + 1)) _ g a (omega arith) w.grouped);
    }

-- where the loop looks at the record before `first`: if it is fine, it belongs to the unit
pub record UnitWalk (ws : List ℕ) (first i base : ℕ) : Type 0 where
  pub low : 0 < first
  pub high : first ≤ i
  pub light : base ≤ 15 * largest_own_advance
  pub turn : (j : ℕ) → first ≡ j + 1 → {r : Rec} → r ≡ rec_at ws j → Fine r → Walked ws j i (base + r.advance)

-- how it starts, goes on and ends ----------------------------------------------------------------------------------

-- a record that breaks its own rules, or a group's, was met
pub unit_unsound : {ws : List ℕ} (j : ℕ) → j < record_count ws → {r : Rec} → r ≡ rec_at ws j → (Fine r → ⊥) →
    ¬ (Checked ws)
unit_unsound j h q f c = f (rw q (clean_fine c j h))

module _ {ws : List ℕ} {known i : ℕ} (s : Scanning ws known i) where
  pub walk_start : 0 < i → UnitWalk ws i i 0
  walk_start h =
      record { low = h; high = omega arith; light = omega arith; turn = λ j e q f. rw zero-add (walked_last s j e q f) }

  pub unit_found : {first base : ℕ} → Walked ws first i base →
      (0 < first → same_group (rec_at ws (first - 1)) (rec_at ws first) ≡ false) →
      UnitBefore ws known i (record { first = first; base = base })
  unit_found {first} w apart =
      let u = w.unit in
      let all = keeps_all (i - first) (rec_at ws first) _ (omega arith) w.grouped in
      let scanning : Scanning ws known first =
      record {
        few = s.few;
        within = omega arith;
        known_fine = s.known_fine;
        sound = u.fine;
        grouped = rw (records_from ws first (omega arith)) all;
        apart = λ a b. apart a;
      } in
      record { scanning = scanning; unit = u }

  -- a record of no group is a unit
  pub unit_alone : (j : ℕ) → i ≡ j + 1 → {r : Rec} → r ≡ rec_at ws j → Fine r → r.group ≡ 0 →
      UnitBefore ws known i (record { first = j; base = r.advance })
  unit_alone j e {r} q f g = unit_found (walked_last s j e q f) (λ h. rw q at (no_group (rec_at ws (j - 1)) r g))

-- a turn of the loop: the record r before `next`, which is fine
module _ {ws : List ℕ} {known i next base : ℕ} (s : Scanning ws known i) (turn : UnitWalk ws next i base) {r : Rec}
    (here : r ≡ rec_at ws (next - 1)) (f : Fine r) where
  walked : Walked ws (next - 1) i (base + r.advance)
  walked = turn.turn (next - 1) (omega arith) here f

  pub unit_first : next - 1 ≡ 0 → UnitBefore ws known i (record { first = next - 1; base = base + r.advance })
  unit_first z = unit_found s walked (λ h. absurd (omega arith))

  -- the record p before r; b says whether they are of one group
  module _ (l : next - 1 ≡ 0 → ⊥) {p : Rec} (before : p ≡ rec_at ws (next - 1 - 1)) {b : Bool}
      (g : b ≡ same_group p r) where
    pub unit_apart : b ≡ false → UnitBefore ws known i (record { first = next - 1; base = base + r.advance })
    unit_apart t = unit_found s walked (λ h. rw (before, here) at (sym g ∙ t))

    -- p belongs to the unit
    module _ (t : b ≡ true) where
      same : (j : ℕ) → next - 1 ≡ j + 1 → same_group (rec_at ws j) (rec_at ws (j + 1)) ≡ true
      same j e = let d : next - 1 - 1 ≡ j = omega arith in rw (before, here, d, e) at (sym g ∙ t)

      pub walk_again : alike p r ≡ true → i - (next - 1) < most_grouped → UnitWalk ws (next - 1) i (base + r.advance)
      walk_again a few =
          let w = walked in
          let n : alike (rec_at ws (next - 1 - 1)) (rec_at ws (next - 1)) ≡ true =
          rw (before, here) at a in
          record {
            low = omega arith;
            high = omega arith;
            light = omega arith;
            turn =
                λ j e q f.
                let d : next - 1 - 1 ≡ j = omega arith in
                walked_more j (rw e at w) (rw e at few) (same j e) (rw (d, e) at n) q f;
          }

      -- and differs from r, or is its seventeenth record
      pub unit_unlike : alike p r ≡ false → ¬ (Checked ws)
      unit_unlike a c =
          let j = next - 1 - 1 in
          let e : next - 1 ≡ j + 1 = omega arith in
          let n : alike (rec_at ws j) (rec_at ws (next - 1)) ≡ false =
          rw (before, here) at a in
          clean_alike c j (omega (arith, walked)) (same j e) (rw (← e) n)

      pub unit_many : most_grouped ≤ i - (next - 1) → ¬ (Checked ws)
      unit_many h c =
          let w = walked in
          let j = next - 1 - 1 in
          let e : next - 1 ≡ j + 1 = omega arith in
          let u : count (unit_at ws j) ≡ suc (count (unit_at ws (j + 1))) =
          rw (unit_more ws j (omega arith), same j e) in
          let v : j + 1 + count (unit_at ws (j + 1)) ≡ i = rw e at w.unit.ends in
          omega (arith, clean_few c j (omega arith))
