-- Laws of runs of two clinics' calls, from those of the definitions. Assumes nothing.
use Rattle.std.proofs.Common.{◌≡◌, sym, ap, ◌∙◌}
use Rattle.rules.specs.Refusals.{Outcome}
use Rattle.sheet.specs.Book.{Reply}
use Rattle.sheet.specs.OnSheet.{step}
use Rattle.sheet.specs.Meanings.{By}
use Rattle.sheet.specs.declared.entry.Clinic.{Clinic}
use Rattle.sheet.proofs.TwoClinics.{answer_kept, same_in_either_order}
use Rattle.sheet.proofs.Demand3.{CallRun, call, before, after, reply}
use Rattle.sheet.proofs.Runs.{EitherOrder}
use Rattle.sheet.proofs.RunSteps.{told}

module _ (r : CallRun) where
  replied : reply r ≡ (step (call r) (before r)).0
  replied = ap (λ (o : Outcome Reply). o.0) (told r)

  left : after r ≡ (step (call r) (before r)).1
  left = ap (λ (o : Outcome Reply). o.1) (told r)

-- two clinics' calls, as runs r and q; p and t are the same calls in the other order
module _ (c d : Clinic) (other : c.0 ≡ d.0 → ⊥) (r q p t : CallRun) (b : By c (call r)) (a : By d (call q))
    (o : EitherOrder r q p t) where
  -- p is q's call on the sheet before both
  told_p : ◌≡◌ {A = Outcome Reply} (reply p, after p) (step (call q) (before r))
  told_p = told p ∙ ap (λ x. step x (before p)) o.p_as_q ∙ ap (step (call q)) o.same_sheet

  left_p : after p ≡ (step (call q) (before r)).1
  left_p = ap (λ (u : Outcome Reply). u.1) told_p

  pub same_second_reply : reply p ≡ reply q
  same_second_reply =
      ap (λ (u : Outcome Reply). u.0) told_p
      ∙ sym (answer_kept c d other (call r) (call q) b a (before r) (after r) (left r))
      ∙ ap (λ ws. (step (call q) ws).0) (sym o.q_after_r)
      ∙ sym (replied q)

  pub same_first_reply : reply t ≡ reply r
  same_first_reply =
      replied t
      ∙ ap (λ x. (step x (before t)).0) o.t_as_r
      ∙ ap (λ ws. (step (call r) ws).0) o.t_after_p
      ∙ answer_kept d c (λ z. other (sym z)) (call q) (call r) a b (before r) (after p) left_p
      ∙ sym (replied r)

  pub same_after : after t ≡ after q
  same_after =
      left t
      ∙ ap (λ x. (step x (before t)).1) o.t_as_r
      ∙ ap (λ ws. (step (call r) ws).1) o.t_after_p
      ∙ sym (same_in_either_order c d other (call r) (call q) b a (before r) (after r) (after p) (left r) left_p)
      ∙ ap (λ ws. (step (call q) ws).1) (sym o.q_after_r)
      ∙ sym (left q)
