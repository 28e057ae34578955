-- Items read from the last to the first give back a content's reading. Assumes nothing.
use Rattle.std.proofs.Common.{◌≡◌, refl, ap, ◌∙◌, ℕ, List, [], ◌∷◌, ◌++◌, append-nil}
use Rattle.rules.specs.Basics.{whole}
use Rattle.leaflet.specs.Items.{Item, char, tag, Tag}
use Rattle.leaflet.specs.Contents.{Annotation, bare, fenced, Piece, single, group, chars, spell_annotation, spell}
use Rattle.leaflet.specs.Contents.{Part, count, part_of, reading}
use Rattle.leaflet.specs.Reader.{Gathered, gather, gathered, parts_in}

abbrev before : List ℕ → Gathered → Gathered
before cs g = record { characters = cs ++ g.characters; ruby = g.ruby; parts = g.parts }

gathered_chars : (cs : List ℕ) (is : List Item) → gathered (chars cs is) ≡ before cs (gathered is)
unfolding gathered
gathered_chars [] is = refl
gathered_chars (c ∷ cs) is = ap (λ g. gather (char c) g) (gathered_chars cs is)

-- characters up to an end tag are all that is gathered there
up_to : (cs : List ℕ) (is : List Item) (g : Gathered) → gathered is ≡ g → g.characters ≡ [] →
    gathered (chars cs is) ≡ record { characters = cs; ruby = g.ruby; parts = g.parts }
up_to cs is g e h = gathered_chars cs is ∙ rw (e, h, append-nil)

abbrev counted : ℕ → List Part → Gathered
counted n gs = record { characters = []; ruby = n; parts = gs }

gathered_annotation : (o : Annotation) (is : List Item) →
    gathered (spell_annotation o (tag Tag.ruby_end ∷ is)) ≡ counted (count o) (parts_in is)
unfolding gathered parts_in
gathered_annotation (bare t) is =
    ap (λ g. gather (tag Tag.rt) g) (up_to (whole t) _ (counted 0 (parts_in is)) refl refl)
gathered_annotation (fenced p t q) is =
    let last = up_to q (tag Tag.rp_end ∷ tag Tag.ruby_end ∷ is) (counted 0 (parts_in is)) refl refl in
    let e = ap (λ g. gather (tag Tag.rt_end) (gather (tag Tag.rp) g)) last in
    let f = ap (λ g. gather (tag Tag.rp_end) (gather (tag Tag.rt) g)) (up_to (whole t) _ _ e refl) in
    ap (λ g. gather (tag Tag.rp) g) (up_to p _ _ f refl)

pub parts_spelt : (ps : List Piece) → parts_in (spell ps) ≡ reading ps
unfolding parts_in gathered spell reading
parts_spelt [] = refl
parts_spelt (single c ∷ ps) = ap (λ gs. part_of (single c) ∷ gs) (parts_spelt ps)
parts_spelt (group b o ∷ ps) =
    let e = up_to (whole b) _ _ (gathered_annotation o (spell ps)) refl in
    ap (λ g. (gather (tag Tag.ruby) g).parts) e ∙ ap (λ gs. part_of (group b o) ∷ gs) (parts_spelt ps)
