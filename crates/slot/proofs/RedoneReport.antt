-- The count of the lines that an edit composes anew, as steps: what the search for r has passed. Assumes nothing.
use Rattle.std.proofs.Common.{◌≡◌, ℕ, suc, ◌+◌, ◌*◌, ◌-◌, ◌/◌, ◌≤◌, ◌<◌, arith, false, List, inl, inr, length, get_or}
use Rattle.std.proofs.Common.{below_more}
use Rattle.rules.specs.Adjustment.{Line}
use Rattle.rules.specs.Redone.{start, resumes, report, edit_line}
use Rattle.rules.specs.Stable.{Resumes}
use Rattle.std.proofs.lemmas.Bool.{cases_lt}
use Rattle.rules.proofs.EditLine.{starts_ascend, edit_line_last}
use Rattle.rules.proofs.Resuming.{not_resumed, none_found, found}
use Rattle.rules.specs.Layout.{line_length}
use Rattle.slot.specs.declared.stretch.Stretch.{Stretch}
use Rattle.slot.specs.Redone.{Starts, LineWords, FirstFrom, FirstRedone, Reported}

-- f -----------------------------------------------------------------------------------------------------------------

-- the line after the one that holds the place is the first, from line 1 on, that starts after it
pub redone_from : (starts : List ℕ) (place next f : ℕ) → FirstFrom starts 1 (place + 1) next → f ≡ next - 2 →
    FirstRedone starts place f
unfolding start edit_line
redone_from starts place next f h e old s =
    elim (cases_lt 0 (length starts)) [
      | inl some ↦
          let k = next - 1 in
          let j : suc k ≡ next = omega (arith, h.low) in
          let from : start k old ≤ place = elim (cases_lt 0 k) [
            | inl g ↦ omega (arith, h.before k (omega arith) (omega arith), s.first k (omega (arith, h.high)))
            | inr g ↦ let z : k ≡ 0 = omega arith in rw (z, start) (omega arith)
          ] in
          let to : suc k < length old → place < start (suc k) old =
          λ g. rw j (omega (arith, h.there (omega (arith, s.count)), s.first next (omega (arith, s.count)))) in
          omega (arith, edit_line_last place old k (omega (arith, h.high, s.count)) from to)
      | inr none ↦ omega (arith, h.low, h.high, s.count)
    ]

-- r -----------------------------------------------------------------------------------------------------------------

-- no new line before line j resumes, and old lines before line k, from line 1 on, start too early for line j
pub record Passed (place deleted inserted : ℕ) (old new : List Line) (j k : ℕ) : Type 0 where
  pub none : (i : ℕ) → i < j → resumes place deleted inserted old i (start i new) ≡ false
  pub early : j < length new → (i : ℕ) → i < k → 1 ≤ i → start i old + inserted < start j new + deleted

module _ (starts words : List ℕ) (t : Stretch) where
  abbrev n : ℕ
  n = length starts

  abbrev count : ℕ
  count = length words / line_length

  abbrev place : ℕ
  place = t.place

  abbrev deleted : ℕ
  deleted = t.deleted

  abbrev inserted : ℕ
  inserted = t.inserted

  -- the search stands at new line j and old line k; this holds of whatever lines start so
  pub record Searching (f j k : ℕ) : Type 0 where
    pub first : FirstRedone starts place f
    pub low : f ≤ j
    pub high : j - f ≤ count - f
    pub old_low : 1 ≤ k
    pub passed : (old new : List Line) → Starts starts n old → LineWords words count new →
        Passed place deleted inserted old new j k

  pub search_start : (f : ℕ) → FirstRedone starts place f → Searching f f 1
  search_start f h =
      record {
        first = h;
        low = omega arith;
        high = omega arith;
        old_low = omega arith;
        passed = λ old new s v.
            record {
              none = λ i b. not_resumed place deleted inserted old new i (start i new)
                  (λ r. omega (arith, r.from_f, h old s));
              early = λ b i c d. absurd (omega arith);
            };
      }

  module _ {f j k : ℕ} (s : Searching f j k) where
    -- past the last new line
    pub search_end : count ≤ j → Reported starts words t (count - f)
    unfolding report
    search_end h old new o w =
        let p = s.passed old new o w in
        omega (
          arith,
          none_found place deleted inserted old new j (omega (arith, w.count)) p.none,
          s.first old o,
          s.low,
          s.high,
          w.count,
        )

    module _ (here : j < count) where
      -- a line that starts before the end of the inserted stretch
      pub search_early : get_or words (3 * j) 0 < place + inserted → Searching f (j + 1) k
      search_early h =
          record {
            first = s.first;
            low = omega (arith, s.low);
            high = omega (arith, s.low, s.high);
            old_low = s.old_low;
            passed = λ old new o w.
                let p = s.passed old new o w in
                let e = w.first j here in
                record {
                  none = below_more _ _ p.none
                      (not_resumed place deleted inserted old new j (start j new) (λ r. omega (arith, r.past, e)));
                  early = λ b i c d.
                      omega (
                        arith,
                        p.early (omega arith) i c d,
                        starts_ascend new j (j + 1) (omega arith) (omega arith),
                      );
                };
          }

      module _ (past : place + inserted ≤ get_or words (3 * j) 0) {l : ℕ}
          (from : FirstFrom starts k (get_or words (3 * j) 0 - inserted + deleted) l) where
        -- an old line starts with the same record
        pub search_found : 1 ≤ j → l < n → get_or starts l 0 ≡ get_or words (3 * j) 0 - inserted + deleted →
            Reported starts words t (j - f)
        unfolding report
        search_found one there same old new o w =
            let p = s.passed old new o w in
            let e = w.first j here in
            let r : Resumes place deleted inserted old j (start j new) =
            record {
              from_f = omega (arith, s.low, s.first old o);
              from_1 = one;
              past = omega arith;
              again = l;
              numbered = omega (arith, s.old_low, from.low);
              there = omega (arith, o.count);
              same = omega (arith, o.first l there);
            } in
            omega (
              arith,
              found place deleted inserted old new j (omega (arith, w.count)) p.none r,
              s.first old o,
            )

        module _ (other : 1 ≤ j → l < n → get_or starts l 0 ≡ get_or words (3 * j) 0 - inserted + deleted → ⊥) where
          -- none does, or this is line 0: an old line that did would stand before k, between k and l, or from l on
          none_again : (old new : List Line) → Starts starts n old → LineWords words count new →
              Resumes place deleted inserted old j (start j new) → ⊥
          none_again old new o w r =
              let p = s.passed old new o w in
              let e = w.first j here in
              let q = r.again in
              let t = o.first q (omega (arith, r.there, o.count)) in
              elim (cases_lt q k) [
                | inl g ↦ omega (arith, p.early (omega (arith, w.count)) q g r.numbered, r.same)
                | inr g ↦
                    elim (cases_lt q l) [
                      | inl c ↦ omega (arith, from.before q c g, r.same, r.past)
                      | inr c ↦
                          let d : l < n = omega (arith, r.there, o.count) in
                          let a = starts_ascend old l q c (omega (arith, r.there)) in
                          other r.from_1 d
                          (omega (arith, from.there d, o.first l d, r.same, r.past))
                    ]
              ]

          pub search_next : Searching f (j + 1) l
          search_next =
              record {
                first = s.first;
                low = omega (arith, s.low);
                high = omega (arith, s.low, s.high);
                old_low = omega (arith, s.old_low, from.low);
                passed = λ old new o w.
                    let p = s.passed old new o w in
                    let e = w.first j here in
                    record {
                      none = below_more _ _ p.none
                          (not_resumed place deleted inserted old new j (start j new) (none_again old new o w));
                      early = λ b i c d.
                          let a = starts_ascend new j (j + 1) (omega arith) (omega arith) in
                          elim (cases_lt i k) [
                            | inl g ↦ omega (arith, p.early (omega arith) i g d)
                            | inr g ↦ omega (arith, from.before i c g, o.first i (omega (arith, from.high)))
                          ];
                    };
              }
