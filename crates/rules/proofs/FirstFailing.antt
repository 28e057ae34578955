-- The place of the first element that fails a test: it is the first that lacks the property tested, and there is none
-- exactly where all have it. Assumes nothing.
use Rattle.std.proofs.Common.{◌≡◌, refl, sym, ap, ◌∙◌, ℕ, zero, suc, ◌+◌, ◌≤◌, ◌<◌, arith, Bool, true, false, List, []}
use Rattle.std.proofs.Common.{◌∷◌, ◌++◌, inl, inr, None, Some, length, take, drop, length-append}
use Rattle.rules.specs.Basics.{first_failing}
use Rattle.rules.specs.Meanings.{All, all_none, all_more, FirstLacking}
use Rattle.std.proofs.lemmas.Bool.{cases_Bool, true≢false}
use Rattle.std.proofs.lemmas.Option.{same_Some, none-some}
use Rattle.rules.proofs.Decisions.{nil_cons}

module _ {A : Type 0} (t : A → Bool) where
  abbrev pub Passes : A → Type 0
  Passes a = t a ≡ true

  pub none_fails : (i : ℕ) (ps : List A) → first_failing t i ps ≡ None → All Passes ps
  unfolding first_failing
  none_fails i [] h = all_none
  none_fails i (a ∷ ps) h =
      elim (cases_Bool (t a)) [
        | inl e ↦ all_more e (none_fails (suc i) ps (rw (e, first_failing) at h))
        | inr e ↦ let f : Some i ≡ None = rw (e, first_failing) at h in absurd (none-some _ (sym f))
      ]

  pub all_pass : (i : ℕ) {ps : List A} → All Passes ps → first_failing t i ps ≡ None
  unfolding first_failing
  all_pass i all_none = refl
  all_pass i (all_more e h) = rw (first_failing, e) (all_pass (suc i) h)

  -- the search goes on past elements that pass
  pub pass_over : (i k : ℕ) (ps : List A) → k ≤ length ps → All Passes (take k ps) →
      first_failing t i ps ≡ first_failing t (i + k) (drop k ps)
  unfolding first_failing
  pass_over i zero ps h a = let e : i + 0 ≡ i = omega arith in rw e
  pass_over i (suc k) [] h a = absurd (omega arith)
  pass_over i (suc k) (p ∷ ps) h (all_more e a) =
      let n : suc i + k ≡ i + suc k = omega arith in
      rw (first_failing, e, ← n) (pass_over (suc i) k ps (omega arith) a)

  -- the element before which k stand
  pub passes_at : {ps : List A} → All Passes ps → (k : ℕ) (a : A) (bs : List A) → drop k ps ≡ a ∷ bs → Passes a
  passes_at all_none zero a bs e = absurd (nil_cons e)
  passes_at all_none (suc k) a bs e = absurd (nil_cons e)
  passes_at (all_more {a = c} p h) zero a bs e = let q : c ≡ a = cc in rw (← q) p
  passes_at (all_more p h) (suc k) a bs e = passes_at h k a bs e

  -- counted from i, the first that fails stands at j
  fails_from : (i j : ℕ) (ps : List A) → first_failing t i ps ≡ Some j →
      (k : ℕ) × (j ≡ i + k) × FirstLacking Passes ps k
  unfolding first_failing
  fails_from i j [] e = absurd (none-some _ e)
  fails_from i j (a ∷ ps) e =
      elim (cases_Bool (t a)) [
        | inl z ↦
            let r = fails_from (suc i) j ps (rw (z, first_failing) at e) in
            let f = r.2 in (
              suc r.0,
              omega (arith, r.1),
              record {
                before = a ∷ f.before;
                here = f.here;
                after = f.after;
                all = ap (λ l. a ∷ l) f.all;
                have = all_more z f.have;
                lacks = f.lacks;
                place = omega (arith, f.place);
              },
            )
        | inr z ↦
            let q : i ≡ j = same_Some _ _ (rw (z, first_failing) at e) in (
              0,
              omega arith,
              record {
                before = [];
                here = a;
                after = ps;
                all = refl;
                have = all_none;
                lacks = λ p. true≢false (sym p ∙ z);
                place = refl;
              },
            )
      ]

  pub fails_first : (j : ℕ) (ps : List A) → first_failing t 0 ps ≡ Some j → FirstLacking Passes ps j
  fails_first j ps e =
      let r = fails_from 0 j ps e in
      let q : r.0 ≡ j = omega (arith, r.1) in
      rw q at r.2

  pub fails_within : (i j : ℕ) (ps : List A) → first_failing t i ps ≡ Some j → j < i + length ps
  fails_within i j ps e =
      let r = fails_from i j ps e in
      omega (arith, r.1, r.2.place, simp length-append at (ap length r.2.all))

  -- and the first that lacks the property is named
  lacking_at : (i : ℕ) (bs : List A) (a : A) (cs : List A) → All Passes bs → t a ≡ false →
      first_failing t i (bs ++ (a ∷ cs)) ≡ Some (i + length bs)
  unfolding first_failing
  lacking_at i [] a cs all_none e = rw (first_failing, e) (ap Some (omega arith))
  lacking_at i (b ∷ bs) a cs (all_more p h) e =
      rw (first_failing, p) (lacking_at (suc i) bs a cs h e ∙ ap Some (omega arith))

  pub lacking_fails : (j : ℕ) (ps : List A) → FirstLacking Passes ps j → first_failing t 0 ps ≡ Some j
  lacking_fails j ps f =
      elim (cases_Bool (t f.here)) [
        | inl e ↦ absurd (f.lacks e)
        | inr e ↦
            ap (first_failing t 0) (sym f.all) ∙ lacking_at 0 f.before f.here f.after f.have e
            ∙ ap Some (omega (arith, f.place))
      ]
