-- Laws of `cut` on a part of a list: what stands before a boundary, what stands after it, and what a longer list
-- changes. Assumes nothing.
use Rattle.std.proofs.Common.{◌≡◌, refl, ap, sym, ◌∙◌, Bool, true, false, List, [], ◌∷◌, ◌++◌, inl, inr}
use Rattle.rules.specs.Basics.{Run, whole, joined, link, cut}
use Rattle.rules.specs.Meanings.{All, last_in, Apart, apart_none, apart_one, apart_more}
use Rattle.std.proofs.lemmas.Bool.{cases_Bool, true≢false, false_from_ne_true}
use Rattle.rules.proofs.Decisions.{cons_path}
use Rattle.rules.proofs.All.{all_front, all_back, all_first, all_append}
use Rattle.rules.proofs.Cuts.{joined_append, cut_joined, cut_linked, cut_apart, cut_tail, maximal_only}
use Rattle.rules.proofs.Cuts.{cut_first}

-- runs that a test keeps apart, a test that is stronger where elements have a property keeps apart
pub apart_where : {A : Type 0} {P : A → Type 0} (s t : A → A → Bool) →
    ((a b : A) → P b → t a b ≡ true → s a b ≡ true) → {ls : List (Run A)} → All P (joined ls) → Apart s ls → Apart t ls
unfolding joined
apart_where s t f h apart_none = apart_none
apart_where s t f h apart_one = apart_one
apart_where s t f h (apart_more {l = l} {k = k} {ls = ls} e hs) =
    let g = all_back (whole l) (joined (k ∷ ls)) h in
    apart_more (false_from_ne_true _ (λ p. true≢false (sym (f (last_in l) k.first (all_first g) p) ∙ e)))
    (apart_where s t f g hs)

-- runs that grew at their end: the last of them has further elements, and further runs follow it
pub data Grown {A : Type 0} : List (Run A) → List (Run A) → Type 0 where
  grown_last : {l k : Run A} {ks : List (Run A)} (es : List A) → k.first ≡ l.first → k.rest ≡ l.rest ++ es →
      Grown (l ∷ []) (k ∷ ks)
  grown_more : {l : Run A} {ls ks : List (Run A)} → Grown ls ks → Grown (l ∷ ls) (l ∷ ks)

pub grown_after : {A : Type 0} (js : List (Run A)) {ls ks : List (Run A)} → Grown ls ks → Grown (js ++ ls) (js ++ ks)
grown_after [] g = g
grown_after (j ∷ js) g = grown_more (grown_after js g)

pub grown_first : {A : Type 0} {l k : Run A} {ls ks : List (Run A)} → Grown (l ∷ ls) (k ∷ ks) → k.first ≡ l.first
grown_first (grown_last es p q) = p
grown_first (grown_more g) = refl

module _ {A : Type 0} (t : A → A → Bool) where
  apart_front : (ls ks : List (Run A)) → Apart t (ls ++ ks) → Apart t ls
  apart_front [] ks h = apart_none
  apart_front (l ∷ []) ks h = apart_one
  apart_front (l ∷ k ∷ ls) ks (apart_more e h) = apart_more e (apart_front (k ∷ ls) ks h)

  -- the runs before a boundary, and those after it, are cut as they would be by themselves
  pub cut_before : (ps : List A) (ls ks : List (Run A)) → cut t ps ≡ ls ++ ks → ls ≡ cut t (joined ls)
  cut_before ps ls ks e =
      maximal_only t (joined ls) ls
      record {
        joins_up = refl;
        linked = all_front ls ks (rw e at (cut_linked t ps));
        apart = apart_front ls ks (rw e at (cut_apart t ps));
      }

  pub cut_after : (ps : List A) (ls ks : List (Run A)) → cut t ps ≡ ls ++ ks → ks ≡ cut t (joined ks)
  cut_after ps [] ks e = sym e ∙ ap (λ qs. cut t qs) (sym (cut_joined t ps) ∙ ap (λ js. joined js) e)
  cut_after ps (l ∷ ls) ks e = cut_after (joined (ls ++ ks)) ls ks (sym (cut_tail t ps l (ls ++ ks) e))

  apart_swap : (ls : List (Run A)) (k j : Run A) (ks js : List (Run A)) →
      ((a : A) → t a j.first ≡ t a k.first) → Apart t (ls ++ k ∷ ks) → Apart t (j ∷ js) → Apart t (ls ++ j ∷ js)
  apart_swap [] k j ks js h a b = b
  apart_swap (l ∷ []) k j ks js h (apart_more e a) b = apart_more (h (last_in l) ∙ e) b
  apart_swap (l ∷ i ∷ ls) k j ks js h (apart_more e a) b = apart_more e (apart_swap (i ∷ ls) k j ks js h a b)

  -- the runs before a boundary stay, whatever stands after it, as long as its first element is linked to the same ones
  pub cut_front : (ps : List A) (ls : List (Run A)) (k : Run A) (ks : List (Run A)) → cut t ps ≡ ls ++ k ∷ ks →
      (q : A) (qs : List A) → ((a : A) → t a q ≡ t a k.first) → cut t (joined ls ++ q ∷ qs) ≡ ls ++ cut t (q ∷ qs)
  cut_front ps ls k ks e q qs h =
      let f = cut_first t q qs in
      let g : (a : A) → t a f.0.first ≡ t a k.first = λ a. ap (λ b. t a b) f.3 ∙ h a in
      let b : Apart t (f.0 ∷ f.1) = rw f.2 at (cut_apart t (q ∷ qs)) in
      let s : Apart t (ls ++ f.0 ∷ f.1) = apart_swap ls k f.0 ks f.1 g (rw e at (cut_apart t ps)) b in
      sym
      (maximal_only t (joined ls ++ q ∷ qs) (ls ++ cut t (q ∷ qs))
      record {
        joins_up = joined_append ls (cut t (q ∷ qs)) ∙ ap (λ ss. joined ls ++ ss) (cut_joined t (q ∷ qs));
        linked = all_append (all_front ls (k ∷ ks) (rw e at (cut_linked t ps))) (cut_linked t (q ∷ qs));
        apart = rw f.2 s;
      })

  link_grown : (a : A) {ls ks : List (Run A)} → Grown ls ks → Grown (link t a ls) (link t a ks)
  link_grown a (grown_last {l} {k} es p q) =
      elim (cases_Bool (t a l.first)) [
        | inl e ↦ rw (p, e) (grown_last es refl (cons_path refl q))
        | inr e ↦
            let d : t a k.first ≡ false = ap (λ b. t a b) p ∙ e in
            rw (e, d) (grown_more (grown_last es p q))
      ]
  link_grown a (grown_more {l} g) =
      elim (cases_Bool (t a l.first)) [ inl e ↦ rw e (grown_more g) | inr e ↦ rw e (grown_more (grown_more g)) ]

  -- elements after a list change its last run only
  pub cut_grows : (a : A) (bs qs : List A) → Grown (cut t (a ∷ bs)) (cut t (a ∷ bs ++ qs))
  unfolding cut
  cut_grows a [] qs = let f = cut_first t a qs in rw f.2 (grown_last f.0.rest f.3 refl)
  cut_grows a (b ∷ bs) qs = link_grown a (cut_grows b bs qs)
