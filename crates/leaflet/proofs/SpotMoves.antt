-- The reader's steps, one by one: a constructor to a row of `Spots`. Assumes nothing.
use Rattle.std.proofs.Common.{◌≡◌, refl, ap, sym, ◌∙◌, ℕ, true, cond, List, [], ◌∷◌, inl, inr, Option, None, Some}
use Rattle.std.proofs.Common.{eqb, eqb-true}
use Rattle.leaflet.specs.Items.{Item, char, tag, Tag}
use Rattle.leaflet.specs.Contents.{text_char, plain_char}
use Rattle.leaflet.specs.Spots.{Spot, outside, opened, in_base, bare_opened, in_bare, in_first, rt_due}
use Rattle.leaflet.specs.Spots.{fenced_opened, in_fenced, rp_due, in_last, closing}
use Rattle.leaflet.specs.Spots.{char_step, allowed, tags, tag_number, find, step}
use Rattle.std.proofs.lemmas.Bool.{cases_Bool}

pub data Move : Spot → Item → Spot → Type 0 where
  single_char : {c : ℕ} → plain_char c ≡ true → Move outside (char c) outside
  open_ruby : Move outside (tag Tag.ruby) opened
  first_base : {c : ℕ} → plain_char c ≡ true → Move opened (char c) in_base
  more_base : {c : ℕ} → plain_char c ≡ true → Move in_base (char c) in_base
  open_bare : Move in_base (tag Tag.rt) bare_opened
  first_bare : {c : ℕ} → text_char c ≡ true → Move bare_opened (char c) in_bare
  more_bare : {c : ℕ} → text_char c ≡ true → Move in_bare (char c) in_bare
  end_bare : Move in_bare (tag Tag.rt_end) closing
  open_first : Move in_base (tag Tag.rp) in_first
  more_first : {c : ℕ} → text_char c ≡ true → Move in_first (char c) in_first
  end_first : Move in_first (tag Tag.rp_end) rt_due
  open_fenced : Move rt_due (tag Tag.rt) fenced_opened
  first_fenced : {c : ℕ} → text_char c ≡ true → Move fenced_opened (char c) in_fenced
  more_fenced : {c : ℕ} → text_char c ≡ true → Move in_fenced (char c) in_fenced
  end_fenced : Move in_fenced (tag Tag.rt_end) rp_due
  open_last : Move rp_due (tag Tag.rp) in_last
  more_last : {c : ℕ} → text_char c ≡ true → Move in_last (char c) in_last
  end_last : Move in_last (tag Tag.rp_end) closing
  close : Move closing (tag Tag.ruby_end) outside

pub move_step : {q p : Spot} {i : Item} → Move q i p → step q i ≡ Some p
unfolding step
move_step (single_char h) = rw h
move_step open_ruby = refl
move_step (first_base h) = rw h
move_step (more_base h) = rw h
move_step open_bare = refl
move_step (first_bare h) = rw h
move_step (more_bare h) = rw h
move_step end_bare = refl
move_step open_first = refl
move_step (more_first h) = rw h
move_step end_first = refl
move_step open_fenced = refl
move_step (first_fenced h) = rw h
move_step (more_fenced h) = rw h
move_step end_fenced = refl
move_step open_last = refl
move_step (more_last h) = rw h
move_step end_last = refl
move_step close = refl

-- where a step leads, a move does
abbrev Leads : Spot → Item → Option Spot → Type 0
Leads q i None = Unit {0}
Leads q i (Some p) = Move q i p

char_leads : (q : Spot) (c : ℕ) → allowed q c ≡ true → Leads q (char c) (char_step q)
char_leads outside c h = single_char h
char_leads opened c h = first_base h
char_leads in_base c h = more_base h
char_leads bare_opened c h = first_bare h
char_leads in_bare c h = more_bare h
char_leads in_first c h = more_first h
char_leads rt_due c h = tt
char_leads fenced_opened c h = first_fenced h
char_leads in_fenced c h = more_fenced h
char_leads rp_due c h = tt
char_leads in_last c h = more_last h
char_leads closing c h = tt

abbrev LeadAll : Spot → List (Tag × Spot) → Type 0
LeadAll q [] = Unit {0}
LeadAll q (r ∷ rs) = Move q (tag r.0) r.1 × LeadAll q rs

tags_lead : (q : Spot) → LeadAll q (tags q)
tags_lead outside = (open_ruby, tt)
tags_lead opened = tt
tags_lead in_base = (open_bare, (open_first, tt))
tags_lead bare_opened = tt
tags_lead in_bare = (end_bare, tt)
tags_lead in_first = (end_first, tt)
tags_lead rt_due = (open_fenced, tt)
tags_lead fenced_opened = tt
tags_lead in_fenced = (end_fenced, tt)
tags_lead rp_due = (open_last, tt)
tags_lead in_last = (end_last, tt)
tags_lead closing = (close, tt)

-- a tag by its number
tag_at : ℕ → Tag
tag_at n =
    cond (eqb n 0) Tag.ruby (cond (eqb n 1) Tag.ruby_end (cond (eqb n 2) Tag.rt (cond (eqb n 3) Tag.rt_end
    (cond (eqb n 4) Tag.rp Tag.rp_end))))

tag_at_number : (t : Tag) → tag_at (tag_number t) ≡ t
unfolding tag_at
tag_at_number Tag.ruby = refl
tag_at_number Tag.ruby_end = refl
tag_at_number Tag.rt = refl
tag_at_number Tag.rt_end = refl
tag_at_number Tag.rp = refl
tag_at_number Tag.rp_end = refl

same_tag : (t u : Tag) → eqb (tag_number t) (tag_number u) ≡ true → u ≡ t
same_tag t u e = sym (tag_at_number u) ∙ ap tag_at (sym (eqb-true _ _ e)) ∙ tag_at_number t

find_leads : (q : Spot) (t : Tag) (rs : List (Tag × Spot)) → LeadAll q rs → Leads q (tag t) (find t rs)
find_leads q t [] h = tt
find_leads q t (r ∷ rs) h =
    elim (cases_Bool (eqb (tag_number t) (tag_number r.0))) [
      | inl e ↦ rw e (rw (same_tag t r.0 e) at h.0)
      | inr e ↦ rw e (find_leads q t rs h.1)
    ]

step_leads : (q : Spot) (i : Item) → Leads q i (step q i)
unfolding step
step_leads q (char c) = elim (cases_Bool (allowed q c)) [ inl e ↦ rw e (char_leads q c e) | inr e ↦ rw e tt ]
step_leads q (tag t) = find_leads q t (tags q) (tags_lead q)

pub step_move : {q p : Spot} {i : Item} → step q i ≡ Some p → Move q i p
step_move {q} {p} {i} e = rw e at (step_leads q i)
