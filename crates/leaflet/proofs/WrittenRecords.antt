-- The records that a program writes from the first item to the last are those of the content. Assumes nothing.
use Rattle.std.proofs.Common.{◌≡◌, refl, ap, ◌∙◌, ℕ, suc, true, false, List, [], ◌∷◌, ◌++◌, map, length}
use Rattle.rules.specs.Basics.{whole}
use Rattle.leaflet.specs.Items.{Item, char, tag, Tag}
use Rattle.leaflet.specs.Contents.{Annotation, bare, fenced, Piece, single, group, chars, spell_annotation, spell}
use Rattle.leaflet.specs.Contents.{count}
use Rattle.leaflet.specs.Contents.{reading, Each, Proper, ProperAnnotation, plain_char, text_char}
use Rattle.leaflet.specs.Imported.{as_word, record_of, records_after}
use Rattle.leaflet.specs.Spots.{Spot, outside, in_base, becomes_record}
use Rattle.leaflet.specs.Written.{chars_before_tag, rt_ahead, written, kept, if_ruby}
use Rattle.leaflet.proofs.SpotMoves.{Move, single_char, open_ruby, first_base, more_base, open_bare, first_bare}
use Rattle.leaflet.proofs.SpotMoves.{more_bare, end_bare, open_first, more_first, end_first, open_fenced}
use Rattle.leaflet.proofs.SpotMoves.{first_fenced, more_fenced, end_fenced, open_last, more_last, end_last}
use Rattle.leaflet.proofs.SpotMoves.{close}
use Rattle.leaflet.proofs.SpotMoves.{move_step}

-- the rt ahead of a base text
chars_counted : (cs : List ℕ) (t : Tag) (is : List Item) → chars_before_tag (chars cs (tag t ∷ is)) ≡ length cs
unfolding chars_before_tag
chars_counted [] t is = refl
chars_counted (c ∷ cs) t is = ap suc (chars_counted cs t is)

ahead_chars : (cs : List ℕ) (is : List Item) → rt_ahead (chars cs is) ≡ rt_ahead is
unfolding rt_ahead
ahead_chars [] is = refl
ahead_chars (c ∷ cs) is = ahead_chars cs is

ahead_annotation : (o : Annotation) (is : List Item) → rt_ahead (spell_annotation o is) ≡ count o
unfolding rt_ahead
ahead_annotation (bare t) is = chars_counted (whole t) Tag.rt_end is
ahead_annotation (fenced p t q) is =
    ahead_chars p _ ∙ chars_counted (whole t) Tag.rt_end (tag Tag.rp ∷ chars q (tag Tag.rp_end ∷ is))

-- of size s
module _ (s : ℕ) where
  -- one item
  module _ {q p : Spot} (k n : ℕ) where
    pub written_char : {c : ℕ} (is : List Item) → Move q (char c) p →
        written s q k n (char c ∷ is) ≡ kept s q k n c (written s p k n is)
    unfolding written
    written_char is m = rw (move_step m)

    pub written_tag : {t : Tag} (is : List Item) → Move q (tag t) p →
        written s q k n (tag t ∷ is) ≡ written s p (if_ruby t (suc k) k) (if_ruby t (rt_ahead is) n) is
    unfolding written
    written_tag is m = rw (move_step m)

  -- characters that are not kept
  dropped : {q : Spot} (k n : ℕ) (cs : List ℕ) (is : List Item) → becomes_record q ≡ false →
      ((c : ℕ) → text_char c ≡ true → Move q (char c) q) → Each text_char cs →
      written s q k n (chars cs is) ≡ written s q k n is
  unfolding kept
  dropped k n [] is w m h = refl
  dropped k n (c ∷ cs) is w m h =
      written_char k n (chars cs is) (m c h.0) ∙ rw w (dropped k n cs is w m h.1)

  -- and those of a base text, which are
  of_base : (k n : ℕ) (cs : List ℕ) (is : List Item) → Each plain_char cs →
      written s in_base k n (chars cs is) ≡ map (record_of s (as_word k) (as_word n)) cs ++ written s in_base k n is
  unfolding kept
  of_base k n [] is h = refl
  of_base k n (c ∷ cs) is h =
      written_char k n (chars cs is) (more_base h.0)
      ∙ ap (λ rs. record_of s (as_word k) (as_word n) c ∷ rs) (of_base k n cs is h.1)

  -- nothing is written for what stands over a base text
  annotation_unwritten : (k n : ℕ) (o : Annotation) (is : List Item) → ProperAnnotation o →
      written s in_base k n (spell_annotation o (tag Tag.ruby_end ∷ is)) ≡ written s outside k n is
  unfolding kept
  annotation_unwritten k n (bare t) is h =
      written_tag k n _ open_bare ∙ written_char k n _ (first_bare h.0)
      ∙ dropped k n t.rest _ refl (λ c e. more_bare e) h.1
      ∙ written_tag k n _ end_bare ∙ written_tag k n is close
  annotation_unwritten k n (fenced p t q) is h =
      written_tag k n _ open_first ∙ dropped k n p _ refl (λ c e. more_first e) h.0 ∙ written_tag k n _ end_first
      ∙ written_tag k n _ open_fenced ∙ written_char k n _ (first_fenced h.1.0)
      ∙ dropped k n t.rest _ refl (λ c e. more_fenced e) h.1.1
      ∙ written_tag k n _ end_fenced ∙ written_tag k n _ open_last
      ∙ dropped k n q _ refl (λ c e. more_last e) h.2
      ∙ written_tag k n _ end_last ∙ written_tag k n is close

  pub written_spelt : (k n : ℕ) (ps : List Piece) → Proper ps →
      written s outside k n (spell ps) ≡ records_after s k (reading ps)
  unfolding spell reading records_after written kept
  written_spelt k n [] h = refl
  written_spelt k n (single c ∷ ps) h =
      written_char k n (spell ps) (single_char h.0)
      ∙ ap (λ rs. record_of s 0 0 c ∷ rs) (written_spelt k n ps h.1)
  written_spelt k n (group b o ∷ ps) h =
      let r = spell_annotation o (tag Tag.ruby_end ∷ spell ps) in
      let m = rt_ahead (chars (whole b) r) in
      let e : m ≡ count o = ahead_chars (whole b) r ∙ ahead_annotation o _ in
      written_tag k n (chars (whole b) r) open_ruby ∙ written_char (suc k) m (chars b.rest r) (first_base h.0.0)
      ∙ ap (λ rs. record_of s (as_word (suc k)) (as_word m) b.first ∷ rs)
      (of_base (suc k) m b.rest r h.0.1
      ∙ ap (λ rs. map (record_of s (as_word (suc k)) (as_word m)) b.rest ++ rs)
      (annotation_unwritten (suc k) m o (spell ps) h.1 ∙ written_spelt (suc k) m ps h.2))
      ∙ ap (λ x. map (record_of s (as_word (suc k)) (as_word x)) (whole b) ++ records_after s (suc k) (reading ps)) e
