-- Laws of docs/RULES.md, "Where a line may be broken": between classes 27 and 13 the left code point decides, and no
-- line ends between a digit and its postfix. Assumes nothing.
use Rattle.std.proofs.Common.{◌≡◌, ◌∙◌, ℕ, true, List, eqb, eqb-true}
use Rattle.std.proofs.Math.Bool.{and-true, and-eq-true_iff}
use Rattle.rules.specs.Sides.{Side, arabic_digit, forbidden}
use Rattle.rules.specs.Groups.{TextUnit, side}
use Rattle.rules.specs.Breaks.{forbidden_between, runs, breaking}
use Rattle.rules.specs.Meanings.{Apart}
use Rattle.rules.specs.Percent.{digit_and_postfix}
use Rattle.rules.proofs.CutParts.{apart_where}
use Rattle.rules.proofs.All.{all_trivial}
use Rattle.rules.proofs.Breaking.{breaking_choice}

pub digit_decides : (l r : Side) → l.class ≡ 27 → r.class ≡ 13 → forbidden l r ≡ arabic_digit l.code
unfolding forbidden
digit_decides l r e f = rw (e, f, and-true (arabic_digit l.code))

postfix_forbidden : (u v : TextUnit) → digit_and_postfix u v ≡ true → forbidden_between u v ≡ true
postfix_forbidden u v h =
    let both = (and-eq-true_iff _ (eqb (side v).class 13)).0 h in
    let digit = (and-eq-true_iff (eqb (side u).class 27) (arabic_digit (side u).code)).0 both.0 in
    digit_decides (side u) (side v) (eqb-true _ _ digit.0) (eqb-true _ _ both.1) ∙ digit.1

pub lines_keep_postfix : (m x : ℕ) (us : List TextUnit) → Apart digit_and_postfix (breaking m x (runs us))
lines_keep_postfix m x us =
    apart_where forbidden_between digit_and_postfix (λ u v _. postfix_forbidden u v) (all_trivial _)
    (breaking_choice m x us).permitted
