-- docs/RULES.md, "How many lines an edit composes anew": new lines before f equal the old ones, those from r on are old
-- lines, moved, and r − f is no more than the new line count. Assumes nothing.
use Rattle.std.proofs.Common.{◌≡◌, refl, ap, sym, ◌∙◌, ℕ, zero, suc, ◌+◌, ◌-◌, ◌≤◌, ◌<◌, arith, List, inl, inr}
use Rattle.std.proofs.Common.{length, take, drop}
use Rattle.std.proofs.Math.Seq.{drop-length}
use Rattle.rules.specs.Records.{Rec}
use Rattle.rules.specs.Groups.{units}
use Rattle.rules.specs.Adjustment.{Line, compose}
use Rattle.rules.specs.Refusals.{splice}
use Rattle.rules.specs.Redone.{start, first_redone, resumed, report}
use Rattle.rules.specs.Stable.{StableAround, Resumes, used_by, StableEdit}
use Rattle.std.proofs.lemmas.Bool.{cases_lt}
use Rattle.rules.proofs.Splices.{splice_after}
use Rattle.rules.proofs.KeptLines.{lines_from, lines_kept}
use Rattle.rules.proofs.EditLine.{before_place, f_within}
use Rattle.rules.proofs.FirstLines.{resumed_first}
use Rattle.rules.proofs.Resuming.{resumes_exactly}
use Rattle.rules.proofs.MovedWords.{composed_words_stable}

-- (a) new lines before f equal the old ones
lines_before : (m x : ℕ) (rs : List Rec) (place deleted : ℕ) (new : List Rec) (f : ℕ) →
    f ≡ first_redone place (compose m x (units rs)) →
    take f (compose m x (units (splice rs place deleted new))) ≡ take f (compose m x (units rs))
lines_before m x rs place deleted new zero e = refl
lines_before m x rs place deleted new (suc n) e =
    let b = before_place place (compose m x (units rs)) n e in
    lines_kept m x rs place deleted new n b.0 b.1

-- (b) a new line at which old lines stand again, and those from there on
lines_again : (m x : ℕ) (rs : List Rec) (place deleted : ℕ) (new : List Rec) → place + deleted ≤ length rs →
    let ls = compose m x (units (splice rs place deleted new)) in
    (r : ℕ) → r < length ls → (p : Resumes place deleted (length new) (compose m x (units rs)) r (start r ls)) →
    drop r ls ≡ drop p.again (compose m x (units rs))
lines_again m x rs place deleted new h r g p =
    let i = start r (compose m x (units (splice rs place deleted new))) in
    let e : i - length new + deleted ≡ start p.again (compose m x (units rs)) = omega (arith, p.past, p.same) in
    lines_from m x (splice rs place deleted new) r p.from_1 g
    ∙ ap (λ ss. compose m 0 (units ss)) (splice_after rs place deleted new i h p.past ∙ ap (λ j. drop j rs) e)
    ∙ sym (lines_from m x rs p.again p.numbered p.there)

-- of any old and new lines
stable : (place deleted inserted : ℕ) (old new : List Line) →
    take (first_redone place old) new ≡ take (first_redone place old) old →
    ((r : ℕ) → r < length new → (p : Resumes place deleted inserted old r (start r new)) →
    drop r new ≡ drop p.again old) →
    StableAround (first_redone place old) (resumed place deleted inserted old new) deleted inserted old new
stable place deleted inserted old new b a =
    let r = resumed place deleted inserted old new in
    let f = resumed_first place deleted inserted old new in
    elim (cases_lt r (length new)) [
      | inl h ↦
          let p = (resumes_exactly place deleted inserted old r (start r new)).0 (f.passes h) in
          record {
            before = b;
            again = p.again;
            after = a r h p;
            moved = λ g. (p.numbered, p.there, p.same);
            in_order = p.from_f;
            within = f.within;
          }
      | inr h ↦
          let e : r ≡ length new = omega (arith, f.within) in
          record {
            before = b;
            again = length old;
            after = ap (λ i. drop i new) e ∙ drop-length new ∙ sym (drop-length old);
            moved = λ g. absurd (omega arith);
            in_order = omega (arith, f_within place old new b);
            within = f.within;
          }
    ]

-- of an edit of records rs: at a place, of a stretch that they have
module _ (m x : ℕ) (rs : List Rec) (place deleted : ℕ) (ins : List Rec) (fits : place + deleted ≤ length rs) where
  abbrev old : List Line
  old = compose m x (units rs)

  abbrev new : List Line
  new = compose m x (units (splice rs place deleted ins))

  pub edit_stable :
      StableEdit place deleted (length ins) old new (used_by old) (used_by new)
      (report place deleted (length ins) old new)
  unfolding report
  edit_stable =
      let before = lines_before m x rs place deleted ins (first_redone place old) refl in
      let s = stable place deleted (length ins) old new before (lines_again m x rs place deleted ins fits) in
      record {
        lines = s;
        words = composed_words_stable m x rs (splice rs place deleted ins) _ _ deleted (length ins) s;
        between = omega (arith, s.in_order);
        few = omega (arith, s.within);
      }
