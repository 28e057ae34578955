-- Laws of `cut`: it gives the maximal runs of linked neighbours, and no others. Assumes nothing.
use Rattle.std.proofs.Common.{◌≡◌, refl, ap, sym, ◌∙◌, Bool, true, false, List, [], ◌∷◌, ◌++◌, append_assoc}
use Rattle.std.proofs.Common.{append-nil, inl, inr, ◌↔◌, eqb, eqb-true}
use borrow.Author.Tests.{eqb-false}
use Rattle.rules.specs.Basics.{Run, alone, whole, extended, joined, link, cut}
use Rattle.rules.specs.Records.{Rec}
use Rattle.rules.specs.Groups.{TextUnit, same_group, units}
use Rattle.std.proofs.lemmas.Bool.{cases_Bool, true≢false}
use Rattle.rules.proofs.Decisions.{nil_cons}
use Rattle.rules.specs.Meanings.{All, all_none, all_more, last_of, last_in, Linked, linked_one, linked_more}
use Rattle.rules.specs.Meanings.{LinkedRun}
use Rattle.rules.specs.Meanings.{Apart, apart_none, apart_one, apart_more, Maximal, Boundary, OneUnit, single}
use Rattle.rules.specs.Meanings.{grouped}

-- the last element of a list that ends in a run
pub last_append : {A : Type 0} (a : A) (bs : List A) (c : A) (cs : List A) → last_of a (bs ++ c ∷ cs) ≡ last_of c cs
last_append a [] c cs = refl
last_append a (b ∷ bs) c cs = last_append b bs c cs

pub joined_append : {A : Type 0} (ls ks : List (Run A)) → joined (ls ++ ks) ≡ joined ls ++ joined ks
unfolding joined
joined_append [] ks = refl
joined_append (l ∷ ls) ks =
    ap (λ t. whole l ++ t) (joined_append ls ks) ∙ sym (append_assoc (whole l) (joined ls) (joined ks))

module _ {A : Type 0} (t : A → A → Bool) where
  link_joined : (a : A) (ls : List (Run A)) → joined (link t a ls) ≡ a ∷ joined ls
  unfolding joined
  link_joined a [] = refl
  link_joined a (l ∷ ls) = elim (cases_Bool (t a l.first)) [ inl e ↦ rw e | inr e ↦ rw e ]

  pub cut_joined : (ps : List A) → joined (cut t ps) ≡ ps
  unfolding cut joined
  cut_joined [] = refl
  cut_joined (a ∷ ps) = link_joined a (cut t ps) ∙ ap (λ s. a ∷ s) (cut_joined ps)

  link_linked : (a : A) {ls : List (Run A)} → All (LinkedRun t) ls → All (LinkedRun t) (link t a ls)
  link_linked a all_none = all_more linked_one all_none
  link_linked a (all_more {a = l} h hs) =
      elim (cases_Bool (t a l.first)) [
        | inl e ↦ rw e (all_more (linked_more e h) hs)
        | inr e ↦ rw e (all_more linked_one (all_more h hs))
      ]

  pub cut_linked : (ps : List A) → All (LinkedRun t) (cut t ps)
  unfolding cut
  cut_linked [] = all_none
  cut_linked (a ∷ ps) = link_linked a (cut_linked ps)

  -- of a first run its last element is asked only
  pub apart_alike : {l k : Run A} {ls : List (Run A)} → last_in l ≡ last_in k → Apart t (l ∷ ls) → Apart t (k ∷ ls)
  apart_alike p apart_one = apart_one
  apart_alike {k = k} p (apart_more {k = j} e h) = apart_more {l = k} {k = j} (rw (← p) e) h

  link_apart : (a : A) (ls : List (Run A)) → Apart t ls → Apart t (link t a ls)
  link_apart a [] h = apart_one
  link_apart a (l ∷ ls) h =
      elim (cases_Bool (t a l.first)) [ inl e ↦ rw e (apart_alike refl h) | inr e ↦ rw e (apart_more e h) ]

  pub cut_apart : (ps : List A) → Apart t (cut t ps)
  unfolding cut
  cut_apart [] = apart_none
  cut_apart (a ∷ ps) = link_apart a (cut t ps) (cut_apart ps)

  -- `cut` gives maximal runs
  pub cut_maximal : (ps : List A) → Maximal t ps (cut t ps)
  cut_maximal ps = record { joins_up = cut_joined ps; linked = cut_linked ps; apart = cut_apart ps }

  -- a linked run is cut off whole before runs from which it is apart
  cut_run : (a : A) (bs : List A) (ls : List (Run A)) → cut t (joined ls) ≡ ls → Linked t a bs →
      Apart t (record { first = a; rest = bs } ∷ ls) → cut t (a ∷ bs ++ joined ls) ≡ record { first = a; rest = bs } ∷
      ls
  unfolding cut
  cut_run a [] [] h linked_one g = rw h
  cut_run a [] (l ∷ ls) h linked_one (apart_more e g) = rw (h, e)
  cut_run a (b ∷ bs) ls h (linked_more e k) g = rw (cut_run b bs ls h k (apart_alike refl g), e)

  pub apart_tail : {l : Run A} {ls : List (Run A)} → Apart t (l ∷ ls) → Apart t ls
  apart_tail apart_one = apart_none
  apart_tail (apart_more e h) = h

  cut_again : {ls : List (Run A)} → All (LinkedRun t) ls → Apart t ls → cut t (joined ls) ≡ ls
  unfolding cut joined
  cut_again all_none g = refl
  cut_again (all_more {a = l} {bs = ls} h hs) g = cut_run l.first l.rest ls (cut_again hs (apart_tail g)) h g

  all_tail : {P : Run A → Type 0} {l : Run A} {ls : List (Run A)} → All P (l ∷ ls) → All P ls
  all_tail (all_more h hs) = hs

  -- what follows the first run is cut as it would be by itself
  pub cut_tail : (ps : List A) (l : Run A) (ls : List (Run A)) → cut t ps ≡ l ∷ ls → ls ≡ cut t (joined ls)
  cut_tail ps l ls e = sym (cut_again (all_tail (rw e at (cut_linked ps))) (apart_tail (rw e at (cut_apart ps))))

  -- and no other runs are maximal
  pub maximal_only : (ps : List A) (ls : List (Run A)) → Maximal t ps ls → ls ≡ cut t ps
  maximal_only ps ls m = sym (cut_again m.linked m.apart) ∙ ap (λ s. cut t s) m.joins_up

  -- the first run starts with the first element
  pub cut_first : (a : A) (ps : List A) →
      (l : Run A) × (ls : List (Run A)) × (cut t (a ∷ ps) ≡ l ∷ ls) × (l.first ≡ a)
  unfolding cut
  cut_first a ps = from (cut t ps)
    where
      from : (ls : List (Run A)) → (l : Run A) × (ks : List (Run A)) × (link t a ls ≡ l ∷ ks) × (l.first ≡ a)
      from [] = (alone a, [], refl, refl)
      from (l ∷ ls) =
          elim (cases_Bool (t a l.first)) [
            | inl e ↦ (extended (alone a) l, ls, (rw e), refl)
            | inr e ↦ (alone a, l ∷ ls, (rw e), refl)
          ]

  link_append : (a : A) (l : Run A) (ls ks : List (Run A)) → link t a (l ∷ ls) ++ ks ≡ link t a ((l ∷ ls) ++ ks)
  link_append a l ls ks = elim (cases_Bool (t a l.first)) [ inl e ↦ rw e | inr e ↦ rw e ]

  -- at apart neighbours a list is cut
  pub cut_split : (a : A) (bs : List A) (c : A) (cs : List A) → t (last_of a bs) c ≡ false →
      cut t (a ∷ bs ++ c ∷ cs) ≡ cut t (a ∷ bs) ++ cut t (c ∷ cs)
  unfolding cut
  cut_split a [] c cs e =
      let f = cut_first c cs in
      rw (f.2, f.3, e)
  cut_split a (b ∷ bs) c cs e =
      let f = cut_first b bs in
      rw (cut_split b bs c cs e, f.2) (sym (link_append a f.0 f.1 (cut t (c ∷ cs))))

  between : (l : Run A) (ls : List (Run A)) (k : Run A) (ks : List (Run A)) → Apart t (l ∷ ls ++ k ∷ ks) →
      t (last_of l.first (l.rest ++ joined ls)) k.first ≡ false
  unfolding joined
  between l [] k ks (apart_more e h) = rw append-nil e
  between l (j ∷ ls) k ks (apart_more e h) = rw last_append (between j ls k ks h)

  boundary_apart : {ls : List (Run A)} {a : A} {bs : List A} {c : A} {cs : List A} → Apart t ls →
      Boundary ls (a ∷ bs) (c ∷ cs) →
      t (last_of a bs) c ≡ false
  unfolding joined
  boundary_apart {ls} {a} {bs} {c} {cs} h b = from b.before b.after b.all b.left b.right
    where
      from : (before after : List (Run A)) → before ++ after ≡ ls → joined before ≡ a ∷ bs → joined after ≡ c ∷ cs →
          t (last_of a bs) c ≡ false
      from [] after e f g = absurd (nil_cons f)
      from (l ∷ before) [] e f g = absurd (nil_cons g)
      from (l ∷ before) (k ∷ after) e f g =
          let p : l.first ≡ a = cc in
          let q : l.rest ++ joined before ≡ bs = cc in
          let r : k.first ≡ c = cc in
          rw (p, q, r) at (between l before k after (rw (← e) at h))

  -- the boundaries between the runs are exactly the apart neighbours
  pub boundary_exact : (a : A) (bs : List A) (c : A) (cs : List A) →
      Boundary (cut t (a ∷ bs ++ c ∷ cs)) (a ∷ bs) (c ∷ cs) ↔ (t (last_of a bs) c ≡ false)
  boundary_exact a bs c cs = (
    boundary_apart (cut_apart (a ∷ bs ++ c ∷ cs)),
    λ e.
        record {
          before = cut t (a ∷ bs);
          after = cut t (c ∷ cs);
          all = sym (cut_split a bs c cs e);
          left = cut_joined (a ∷ bs);
          right = cut_joined (c ∷ cs);
        },
  )

-- records of one group
same_group_is : (p r : Rec) → same_group p r ≡ true → (r.group ≡ 0 → ⊥) × (p.group ≡ r.group)
same_group_is p r e =
    elim (cases_Bool (eqb r.group 0)) [
      | inl z ↦ let f : false ≡ true = rw z at e in absurd (true≢false (sym f))
      | inr z ↦ (eqb-false _ _ z, eqb-true p.group r.group (rw z at e))
    ]

linked_group : {p : Rec} {rs : List Rec} → Linked same_group p rs → All (λ r. r.group ≡ p.group) rs
linked_group linked_one = all_none
linked_group (linked_more {a = p} {b = r} {bs = rs} e h) =
    let g = same_group_is p r e in
    all_more (sym g.1) (rw (← g.1) at (linked_group h))

-- a unit is a single record or a run of one non-zero group
unit_one : (u : TextUnit) → LinkedRun same_group u → OneUnit u
unit_one u h = from u.rest h refl
  where
    from : (rs : List Rec) → Linked same_group u.first rs → u.rest ≡ rs → OneUnit u
    from [] g e = single e
    from (r ∷ rs) g e = grouped {u = u} (λ z. nonzero g z) (rw e (linked_group g))
      where
        nonzero : {rs : List Rec} → Linked same_group u.first (r ∷ rs) → u.first.group ≡ 0 → ⊥
        nonzero (linked_more e h) z = let g = same_group_is u.first r e in g.0 (sym g.1 ∙ z)

all_one : {us : List TextUnit} → All (LinkedRun same_group) us → All OneUnit us
all_one all_none = all_none
all_one (all_more {a = u} h hs) = all_more (unit_one u h) (all_one hs)

pub units_one : (rs : List Rec) → All OneUnit (units rs)
unfolding units
units_one rs = all_one (cut_linked same_group rs)
