-- What grows where a paragraph goes on otherwise: a unit may get further records, a run further units. Of widths, units
-- and forbidden breaks docs/RULES.md, "How many lines an edit composes anew", needs two facts: `grown_wider`, that a
-- line which grows at its end gets no narrower, and `forbidden_alike`, that a unit's first record tells where a break
-- before it is forbidden. Assumes nothing.
use Rattle.std.proofs.Common.{◌≡◌, ap, ◌∙◌, ℕ, ◌+◌, ◌≤◌, arith, true, false, List, [], ◌∷◌, ◌++◌, leb, leb-false}
use borrow.Author.Tests.{lt-leb}
use Rattle.rules.specs.Basics.{Run, alone, whole, extended, joined, cut}
use Rattle.rules.specs.Records.{Rec}
use Rattle.rules.specs.Groups.{TextUnit, same_group, units, advances, group_advance, advance}
use Rattle.rules.specs.Breaks.{forbidden_between, gap, smallest, width}
use Rattle.rules.specs.Meanings.{Linked, linked_one, linked_more, LinkedRun}
use Rattle.rules.proofs.Cuts.{cut_first}
use Rattle.rules.proofs.Widths.{wider}
use Rattle.rules.proofs.CutParts.{Grown, grown_last, grown_more, grown_after, grown_first, cut_grows}

-- Units: what is used of them ----------------------------------------------------------------------------------------

-- a unit's first record tells where a break before it is forbidden
pub forbidden_alike : (u v w : TextUnit) → v.first ≡ w.first → forbidden_between u v ≡ forbidden_between u w
forbidden_alike u v w p = rw p

gap_alike : (u v w : TextUnit) → v.first ≡ w.first → gap u v ≡ gap u w
gap_alike u v w p = rw p

advances_grow : (rs es : List Rec) → advances rs ≤ advances (rs ++ es)
unfolding advances
advances_grow [] es = omega arith
advances_grow (r ∷ rs) es = omega (arith, advances_grow rs es)

-- a unit with further records is no narrower
unit_grows : (u v : TextUnit) (es : List Rec) → v.first ≡ u.first → v.rest ≡ u.rest ++ es → advance u ≤ advance v
unfolding advance group_advance
unit_grows u v es p q = rw (p, q) (omega (arith, advances_grow (whole u) es))

-- Widths -------------------------------------------------------------------------------------------------------------

grown_wider : {u v : TextUnit} {us vs : List TextUnit} → Grown (u ∷ us) (v ∷ vs) → smallest u us ≤ smallest v vs
unfolding smallest
grown_wider {vs} (grown_last {l = u} {k = v} es p q) = omega (arith, unit_grows u v es p q, wider v [] vs)
grown_wider (grown_more {l = l} {ls = []} {ks = ks} g) = elim g [ ]
grown_wider (grown_more {l = l} {ls = w ∷ us} {ks = []} g) = elim g [ ]
grown_wider {u} (grown_more {ls = w ∷ us} {ks = v ∷ vs} g) =
    rw (gap_alike u v w (grown_first g)) (omega (arith, grown_wider g))

-- where the run b no longer fits into a line, the run c does not either
abbrev pub NoEasier : Run TextUnit → Run TextUnit → Type 0
NoEasier b c =
    (m x : ℕ) (l : Run TextUnit) → leb (x + width (extended l b)) m ≡ false → leb (x + width (extended l c)) m ≡ false

pub grown_no_easier : (b c : Run TextUnit) → Grown (whole b) (whole c) → NoEasier b c
grown_no_easier b c g m x l e =
    let w : width (extended l b) ≤ width (extended l c) = grown_wider (grown_after (whole l) g) in
    let n = leb-false (x + width (extended l b)) m e in
    lt-leb (x + width (extended l c)) m (omega arith)

-- Runs ---------------------------------------------------------------------------------------------------------------

-- the first run of some units
pub record FirstRun (us vs : List TextUnit) : Type 0 where
  pub run : Run TextUnit
  pub others : List (Run TextUnit)
  pub all : cut forbidden_between vs ≡ run ∷ others
  pub grown : Grown us (whole run)

-- where a linked run grows, the first run of the units has grown from it
run_grows : {u v : TextUnit} {us vs : List TextUnit} → Linked forbidden_between u us → Grown (u ∷ us) (v ∷ vs) →
    FirstRun (u ∷ us) (v ∷ vs)
unfolding cut
run_grows {vs = vs} (linked_one {a = a}) (grown_more g) = elim g [ ]
run_grows {vs = []} (linked_more {a = u} {b = w} {bs = bs} e h) (grown_more g) = elim g [ ]
run_grows linked_one (grown_last {k = v} {ks = vs} es p q) =
    let f = cut_first forbidden_between v vs in
    record {
      run = f.0;
      others = f.1;
      all = f.2;
      grown = grown_last es (ap (λ u. u.first) f.3 ∙ p) (ap (λ u. u.rest) f.3 ∙ q);
    }
run_grows (linked_more {a = u} {b = w} e h) (grown_more {ks = v ∷ vs} g) =
    let r = run_grows h g in
    let d : forbidden_between u r.run.first ≡ true =
    forbidden_alike u r.run.first w (grown_first r.grown) ∙ e in
    record {
      run = extended (alone u) r.run;
      others = r.others;
      all = rw (r.all, d);
      grown = grown_more r.grown;
    }

-- a run b of a paragraph, when other records follow its own: the first run from there on has grown from it
pub next_run : (b : Run TextUnit) → LinkedRun forbidden_between b → whole b ≡ units (joined (whole b)) →
    (es : List Rec) →
    FirstRun (whole b) (units (joined (whole b) ++ es))
unfolding units joined
next_run b h e es =
    let r = b.first.first in
    let rs = b.first.rest ++ joined b.rest in
    let f = cut_first same_group r (rs ++ es) in
    let g : Grown (whole b) (cut same_group (r ∷ rs ++ es)) = rw e (cut_grows same_group r rs es) in
    rw f.2 (run_grows h (rw f.2 at g))
