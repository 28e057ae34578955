-- A paragraph at the start of one of its lines but the first: the lines before it depend on the records up to the end
-- of its first run only, and the lines from there on are those of a paragraph of its own, without indent.
-- Assumes nothing.
use Rattle.std.proofs.Common.{◌≡◌, refl, ap, sym, ◌∙◌, ℕ, suc, ◌+◌, ◌≤◌, ◌<◌, arith, List, [], ◌∷◌, ◌++◌, length}
use Rattle.std.proofs.Common.{take, drop, add-one, take-add}
use Rattle.rules.specs.Basics.{Run, whole, joined, cut}
use Rattle.rules.specs.Records.{Rec}
use Rattle.rules.specs.Groups.{TextUnit, same_group, units, counts}
use Rattle.rules.specs.Breaks.{forbidden_between, runs, filled, breaking}
use Rattle.rules.specs.Meanings.{LinkedRun}
use Rattle.rules.proofs.Cuts.{joined_append, cut_joined, cut_linked, cut_first}
use Rattle.rules.proofs.Breaking.{filled_first}
use Rattle.rules.proofs.NoBreaking.{counts_append}
use Rattle.rules.proofs.WordCounts.{counts_joined}
use Rattle.rules.proofs.CutParts.{cut_before, cut_after, cut_front}
use Rattle.rules.proofs.All.{all_first, all_back}
use Rattle.rules.proofs.Growing.{forbidden_alike, grown_no_easier, next_run}
use Rattle.rules.proofs.BreakingStops.{Stops, stops_filled, stops_joined, StopAt, stop_at, filled_holds}

-- the lines of records, as stretches of units
abbrev pub broken : ℕ → ℕ → List Rec → List (Run TextUnit)
broken m x rs = breaking m x (runs (units rs))

-- the records' runs l and `taken`, and `next` and others
module _ (rs : List Rec) (l next : Run TextUnit) (taken others : List (Run TextUnit))
    (e : cut forbidden_between (cut same_group rs) ≡ (l ∷ taken) ++ next ∷ others) where
  units_parts : cut same_group rs ≡ joined (l ∷ taken) ++ (whole next ++ joined others)
  unfolding joined
  units_parts =
      sym (cut_joined forbidden_between (cut same_group rs)) ∙ ap (λ js. joined js) e
      ∙ joined_append (l ∷ taken) (next ∷ others)

  records_parts : rs ≡ joined (joined (l ∷ taken)) ++ (joined (whole next) ++ joined (joined others))
  records_parts =
      sym (cut_joined same_group rs) ∙ ap (λ us. joined us) units_parts ∙ rw (joined_append, joined_append (whole next))

  later_units : whole next ++ joined others ≡ cut same_group (joined (whole next ++ joined others))
  later_units = cut_after same_group rs (joined (l ∷ taken)) (whole next ++ joined others) units_parts

  next_units : whole next ≡ cut same_group (joined (whole next))
  next_units =
      cut_before same_group (joined (whole next ++ joined others)) (whole next) (joined others) (sym later_units)

  next_linked : LinkedRun forbidden_between next
  next_linked =
      all_first (all_back (l ∷ taken) (next ∷ others) (rw e at (cut_linked forbidden_between (cut same_group rs))))

  later_runs : next ∷ others ≡ cut forbidden_between (cut same_group (joined (whole next) ++ joined (joined others)))
  unfolding joined
  later_runs =
      cut_after forbidden_between (cut same_group rs) (l ∷ taken) (next ∷ others) e
      ∙ ap (λ us. cut forbidden_between us) (later_units ∙ rw (joined_append (whole next)))

  -- whatever records follow the run `next`, the runs before it stay
  front_runs : (es : List Rec) →
      cut forbidden_between (cut same_group (joined (joined (l ∷ taken)) ++ (joined (whole next) ++ es)))
      ≡ (l ∷ taken) ++ cut forbidden_between (cut same_group (joined (whole next) ++ es))
  unfolding joined
  front_runs es =
      let us = joined (l ∷ taken) in
      let r = next.first.first in
      let qs = (next.first.rest ++ joined next.rest) ++ es in
      let f = cut_first same_group r qs in
      let g : cut same_group (joined us ++ r ∷ qs) ≡ us ++ cut same_group (r ∷ qs) =
      cut_front same_group rs us next.first (next.rest ++ joined others) units_parts r qs (λ a. refl) in
      let h : cut forbidden_between (us ++ f.0 ∷ f.1) ≡ (l ∷ taken) ++ cut forbidden_between (f.0 ∷ f.1) =
      cut_front forbidden_between (cut same_group rs) (l ∷ taken) next others e f.0 f.1
      (λ u. forbidden_alike u f.0 next.first f.3) in
      ap (λ vs. cut forbidden_between vs) (g ∙ ap (λ vs. us ++ vs) f.2) ∙ h
      ∙ ap (λ vs. (l ∷ taken) ++ cut forbidden_between vs) (sym f.2)

  -- the lines that l and `taken` fill stay too
  front_lines : (m x : ℕ) (ls : List (Run TextUnit)) → Stops m x l taken next ls → (es : List Rec) →
      broken m x (joined (joined (l ∷ taken)) ++ (joined (whole next) ++ es))
      ≡ ls ++ broken m 0 (joined (whole next) ++ es)
  unfolding runs units breaking
  front_lines m x ls s es =
      let n = next_run next next_linked next_units es in
      ap (λ js. breaking m x js) (front_runs es ∙ ap (λ js. (l ∷ taken) ++ js) n.all)
      ∙ stops_filled s n.run n.others (grown_no_easier next n.run n.grown)
      ∙ ap (λ js. ls ++ breaking m 0 js) (sym n.all)

-- Line n of a paragraph of records: where it starts, and the run it starts with --------------------------------------

pub record LineAt (m x : ℕ) (rs : List Rec) (n : ℕ) : Type 0 where
  pub prior : List Rec
  pub run : Run TextUnit
  pub others : List Rec
  pub all : rs ≡ prior ++ (joined (whole run) ++ others)
  -- the lines from n on are those of the records from there on
  pub after : drop n (broken m x rs) ≡ broken m 0 (joined (whole run) ++ others)
  -- the lines before n stay, whatever records follow the run
  pub before : (es : List Rec) →
      broken m x (prior ++ (joined (whole run) ++ es)) ≡ take n (broken m x rs) ++ broken m 0 (joined (whole run) ++ es)
  -- the records before line n are those of the lines before it; line n holds the run
  pub size : length prior ≡ counts (joined (take n (broken m x rs)))
  pub holds : length prior + length (joined (whole run)) ≤ counts (joined (take (suc n) (broken m x rs)))

-- a line more
one_more : (n : ℕ) (ls : List (Run TextUnit)) →
    counts (joined (take (suc n) ls)) ≡ counts (joined (take n ls)) + counts (joined (take 1 (drop n ls)))
one_more n ls = rw (← add-one n, take-add, joined_append, counts_append)

stop_line : (m x : ℕ) (rs : List Rec) (l : Run TextUnit) (ks : List (Run TextUnit)) (n : ℕ) →
    cut forbidden_between (cut same_group rs) ≡ l ∷ ks → StopAt m x l ks n → LineAt m x rs n
unfolding runs units breaking
stop_line m x rs l ks n e s =
    let p : cut forbidden_between (cut same_group rs) ≡ (l ∷ s.taken) ++ s.next ∷ s.others =
    e ∙ ap (λ ks. l ∷ ks) s.all in
    let b : broken m x rs ≡ filled m x l ks = ap (λ ls. breaking m x ls) e in
    let us = joined (l ∷ s.taken) in
    let c = counts_joined us in
    let d = counts_joined (whole s.next) in
    let j = stops_joined s.stops in
    let f = ap (λ ls. counts (joined (take 1 ls))) s.after in
    record {
      prior = joined us;
      run = s.next;
      others = joined (joined s.others);
      all = records_parts rs l s.next s.taken s.others p;
      after =
          ap (λ ls. drop n ls) b ∙ s.after
          ∙ ap (λ ls. breaking m 0 ls) (later_runs rs l s.next s.taken s.others p);
      before = λ es.
          front_lines rs l s.next s.taken s.others p m x (take n (filled m x l ks)) s.stops es
          ∙ ap (λ ls. take n ls ++ broken m 0 (joined (whole s.next) ++ es)) (sym b);
      size = sym c ∙ ap (λ vs. counts vs) (sym j ∙ ap (λ ls. joined (take n ls)) (sym b));
      holds =
          omega (
            arith,
            ap (λ ls. counts (joined (take (suc n) ls))) b,
            one_more n (filled m x l ks),
            filled_holds m 0 s.next s.others,
            ap (λ vs. counts vs) j,
          );
    }

-- a line but the first, and where it starts
pub line_at : (m x : ℕ) (rs : List Rec) (n : ℕ) → suc n < length (broken m x rs) → LineAt m x rs (suc n)
unfolding runs units breaking
line_at m x rs n h = from (cut forbidden_between (cut same_group rs)) refl
  where
    from : (ls : List (Run TextUnit)) → cut forbidden_between (cut same_group rs) ≡ ls → LineAt m x rs (suc n)
    from [] e = absurd (omega (arith, ap (λ ls. length (breaking m x ls)) e))
    from (l ∷ ks) e =
        stop_line m x rs l ks (suc n) e
        (stop_at m x l ks n (omega (arith, ap (λ ls. length (breaking m x ls)) e)))

-- records have a line
pub some_line : (m x : ℕ) (r : Rec) (rs : List Rec) →
    (k : Run TextUnit) × (ks : List (Run TextUnit)) × (broken m x (r ∷ rs) ≡ k ∷ ks)
unfolding runs units breaking
some_line m x r rs =
    let f = cut_first same_group r rs in
    let g = cut_first forbidden_between f.0 f.1 in
    let h = filled_first m x g.0 g.1 in
    (h.0, h.1, ap (λ us. breaking m x (cut forbidden_between us)) f.2 ∙ ap (λ ls. breaking m x ls) g.2 ∙ h.2)
