-- One text has one reading, at the level of items: contents that spell the same items are equal, and reading items from
-- the last to the first gives back the parts. Assumes nothing.
use Rattle.std.proofs.Common.{◌≡◌, refl, ℕ, List, [], ◌∷◌}
use Rattle.rules.specs.Basics.{Run, whole}
use Rattle.leaflet.specs.Items.{Item, tag, Tag}
use Rattle.leaflet.specs.Contents.{Annotation, bare, fenced, Piece, single, group, chars, spell_annotation, spell}
use Rattle.leaflet.proofs.Decisions.{no_way}

-- characters up to a tag are told by the items
record Same (cs ds : List ℕ) (t u : Tag) (is js : List Item) : Type 0 where
  texts : cs ≡ ds
  ends : t ≡ u
  rests : is ≡ js

chars_same : (cs ds : List ℕ) {t u : Tag} {is js : List Item} → chars cs (tag t ∷ is) ≡ chars ds (tag u ∷ js) →
    Same cs ds t u is js
chars_same [] [] e = record { texts = refl; ends = cc; rests = cc }
chars_same [] (d ∷ ds) e = no_way (cc)
chars_same (c ∷ cs) [] e = no_way (cc)
chars_same (c ∷ cs) (d ∷ ds) {t} {u} {is} {js} e =
    let p : c ≡ d = cc in
    let f : chars cs (tag t ∷ is) ≡ chars ds (tag u ∷ js) = cc in
    let s = chars_same cs ds f in
    record { texts = λ i. p i ∷ s.texts i; ends = s.ends; rests = s.rests }

run_same : {b d : Run ℕ} → whole b ≡ whole d → b ≡ d
run_same {b} {d} e =
    let p : b.first ≡ d.first = cc in
    let q : b.rest ≡ d.rest = cc in
    λ i. record { first = p i; rest = q i }

group_same : {b d : Run ℕ} {o w : Annotation} {ps qs : List Piece} → b ≡ d → o ≡ w → ps ≡ qs →
    group b o ∷ ps ≡ group d w ∷ qs
group_same p q r = λ i. group (p i) (q i) ∷ r i

-- what stands over a base text, and the rest, are told by the items
record SameAnnotation (o w : Annotation) (is js : List Item) : Type 0 where
  annotations : o ≡ w
  rests : is ≡ js

-- the tag that opens what stands over a base text, and the items after it
opens : Annotation → Tag
opens (bare t) = Tag.rt
opens (fenced p t q) = Tag.rp

inner : Annotation → List Item → List Item
inner (bare t) is = chars (whole t) (tag Tag.rt_end ∷ is)
inner (fenced p t q) is =
    chars p (tag Tag.rp_end ∷ tag Tag.rt ∷ chars (whole t) (tag Tag.rt_end ∷
    tag Tag.rp ∷ chars q (tag Tag.rp_end ∷ is)))

spell_inner : (o : Annotation) (is : List Item) → spell_annotation o is ≡ tag (opens o) ∷ inner o is
unfolding opens inner
spell_inner (bare t) is = refl
spell_inner (fenced p t q) is = refl

inner_same : (o w : Annotation) {is js : List Item} → opens o ≡ opens w → inner o is ≡ inner w js →
    SameAnnotation o w is js
unfolding opens inner
inner_same (bare t) (bare v) h e =
    let s = chars_same (whole t) (whole v) e in
    let f = run_same s.texts in
    record { annotations = λ i. bare (f i); rests = s.rests }
inner_same (bare t) (fenced p v q) h e = no_way (cc)
inner_same (fenced p t q) (bare v) h e = no_way (cc)
inner_same (fenced p t q) (fenced p' t' q') {is} {js} h e =
    let s = chars_same p p' e in
    let f : chars (whole t) (tag Tag.rt_end ∷ tag Tag.rp ∷ chars q (tag Tag.rp_end ∷ is)) ≡
    chars (whole t') (tag Tag.rt_end ∷ tag Tag.rp ∷ chars q' (tag Tag.rp_end ∷ js)) = cc s.rests in
    let s' = chars_same (whole t) (whole t') f in
    let g : chars q (tag Tag.rp_end ∷ is) ≡ chars q' (tag Tag.rp_end ∷ js) = cc s'.rests in
    let s'' = chars_same q q' g in
    let r = run_same s'.texts in
    record { annotations = λ i. fenced (s.texts i) (r i) (s''.texts i); rests = s''.rests }

pub spell_same : (ps qs : List Piece) → spell ps ≡ spell qs → ps ≡ qs
unfolding spell
spell_same [] [] e = refl
spell_same [] (single c ∷ qs) e = no_way (cc)
spell_same [] (group b o ∷ qs) e = no_way (cc)
spell_same (single c ∷ ps) [] e = no_way (cc)
spell_same (single c ∷ ps) (single d ∷ qs) e =
    let p : c ≡ d = cc in
    let f : spell ps ≡ spell qs = cc in
    let s = spell_same ps qs f in
    λ i. single (p i) ∷ s i
spell_same (single c ∷ ps) (group b o ∷ qs) e = no_way (cc)
spell_same (group b o ∷ ps) [] e = no_way (cc)
spell_same (group b o ∷ ps) (single c ∷ qs) e = no_way (cc)
spell_same (group b o ∷ ps) (group d w ∷ qs) e =
    let is = tag Tag.ruby_end ∷ spell ps in
    let js = tag Tag.ruby_end ∷ spell qs in
    let f : chars (whole b) (spell_annotation o is) ≡ chars (whole d) (spell_annotation w js) = cc in
    let s = chars_same (whole b) (whole d) (rw (spell_inner o is, spell_inner w js) at f) in
    let g = inner_same o w s.ends s.rests in
    let k : spell ps ≡ spell qs = cc g.rests in
    group_same (run_same s.texts) g.annotations (spell_same ps qs k)
