-- What may follow at each spot of an accepted text, said by contents: the reader's moves lead through it, and none is a
-- dead end. Assumes nothing.
use Rattle.std.proofs.Common.{◌≡◌, refl, ℕ, true, List, [], ◌∷◌}
use Rattle.lists.specs.Lists.{lists, in_list, class_of}
use Rattle.rules.specs.Basics.{Run, whole}
use Rattle.rules.specs.Records.{code_ok}
use Rattle.leaflet.specs.Items.{Item, tag, Tag}
use Rattle.leaflet.specs.Contents.{listed, text_char, plain_char, bare, fenced, Piece, single, group, chars}
use Rattle.leaflet.specs.Contents.{spell, Each, Proper}
use Rattle.leaflet.specs.Spots.{Spot, outside, opened, in_base, bare_opened, in_bare, in_first, rt_due}
use Rattle.leaflet.specs.Spots.{fenced_opened, in_fenced, rp_due, in_last, closing}
use Rattle.leaflet.proofs.SpotMoves.{Move, single_char, open_ruby, first_base, more_base, open_bare, first_bare}
use Rattle.leaflet.proofs.SpotMoves.{more_bare, end_bare, open_first, more_first, end_first, open_fenced}
use Rattle.leaflet.proofs.SpotMoves.{first_fenced, more_fenced, end_fenced, open_last, more_last, end_last}
use Rattle.leaflet.proofs.SpotMoves.{close}

pub data Rest : Spot → List Item → Type 0 where
  pieces : (ps : List Piece) → Proper ps → Rest outside (spell ps)
  closed : (ps : List Piece) → Proper ps → Rest closing (tag Tag.ruby_end ∷ spell ps)
  last_rp : (q : List ℕ) {is : List Item} → Each text_char q → Rest closing is →
      Rest in_last (chars q (tag Tag.rp_end ∷ is))
  due_rp : {is : List Item} → Rest in_last is → Rest rp_due (tag Tag.rp ∷ is)
  fenced_text : (t : List ℕ) {is : List Item} → Each text_char t → Rest rp_due is →
      Rest in_fenced (chars t (tag Tag.rt_end ∷ is))
  fenced_whole : (t : Run ℕ) {is : List Item} → Each text_char (whole t) → Rest rp_due is →
      Rest fenced_opened (chars (whole t) (tag Tag.rt_end ∷ is))
  due_rt : {is : List Item} → Rest fenced_opened is → Rest rt_due (tag Tag.rt ∷ is)
  first_rp : (p : List ℕ) {is : List Item} → Each text_char p → Rest rt_due is →
      Rest in_first (chars p (tag Tag.rp_end ∷ is))
  bare_text : (t : List ℕ) {is : List Item} → Each text_char t → Rest closing is →
      Rest in_bare (chars t (tag Tag.rt_end ∷ is))
  bare_whole : (t : Run ℕ) {is : List Item} → Each text_char (whole t) → Rest closing is →
      Rest bare_opened (chars (whole t) (tag Tag.rt_end ∷ is))
  base_bare : (b : List ℕ) {is : List Item} → Each plain_char b → Rest bare_opened is →
      Rest in_base (chars b (tag Tag.rt ∷ is))
  base_fenced : (b : List ℕ) {is : List Item} → Each plain_char b → Rest in_first is →
      Rest in_base (chars b (tag Tag.rp ∷ is))
  whole_bare : (b : Run ℕ) {is : List Item} → Each plain_char (whole b) → Rest bare_opened is →
      Rest opened (chars (whole b) (tag Tag.rt ∷ is))
  whole_fenced : (b : Run ℕ) {is : List Item} → Each plain_char (whole b) → Rest in_first is →
      Rest opened (chars (whole b) (tag Tag.rp ∷ is))

abbrev run_of : ℕ → List ℕ → Run ℕ
run_of c cs = record { first = c; rest = cs }

pub rest_move : {q p : Spot} {i : Item} {is : List Item} → Move q i p → Rest p is → Rest q (i ∷ is)
unfolding spell
rest_move (single_char {c = c} h) (pieces ps g) = pieces (single c ∷ ps) (h, g)
rest_move open_ruby (whole_bare b hb (bare_whole t ht (closed ps g))) = pieces (group b (bare t) ∷ ps) (hb, ht, g)
rest_move open_ruby
    (whole_fenced b hb (first_rp p hp (due_rt (fenced_whole t ht (due_rp (last_rp q hq (closed ps g))))))) =
    pieces (group b (fenced p t q) ∷ ps) (hb, (hp, ht, hq), g)
rest_move (first_base {c = c} h) (base_bare b hb r) = whole_bare (run_of c b) (h, hb) r
rest_move (first_base {c = c} h) (base_fenced b hb r) = whole_fenced (run_of c b) (h, hb) r
rest_move (more_base {c = c} h) (base_bare b hb r) = base_bare (c ∷ b) (h, hb) r
rest_move (more_base {c = c} h) (base_fenced b hb r) = base_fenced (c ∷ b) (h, hb) r
rest_move open_bare r = base_bare [] tt r
rest_move (first_bare {c = c} h) (bare_text t ht r) = bare_whole (run_of c t) (h, ht) r
rest_move (more_bare {c = c} h) (bare_text t ht r) = bare_text (c ∷ t) (h, ht) r
rest_move end_bare r = bare_text [] tt r
rest_move open_first r = base_fenced [] tt r
rest_move (more_first {c = c} h) (first_rp p hp r) = first_rp (c ∷ p) (h, hp) r
rest_move end_first r = first_rp [] tt r
rest_move open_fenced r = due_rt r
rest_move (first_fenced {c = c} h) (fenced_text t ht r) = fenced_whole (run_of c t) (h, ht) r
rest_move (more_fenced {c = c} h) (fenced_text t ht r) = fenced_text (c ∷ t) (h, ht) r
rest_move end_fenced r = fenced_text [] tt r
rest_move open_last r = due_rp r
rest_move (more_last {c = c} h) (last_rp q hq r) = last_rp (c ∷ q) (h, hq) r
rest_move end_last r = last_rp [] tt r
rest_move close (pieces ps g) = closed ps g

-- a text can go on from each spot: HIRAGANA LETTER A is listed
pub record Live (q : Spot) : Type 0 where
  pub items : List Item
  pub rest : Rest q items

after : {q p : Spot} {i : Item} → Move q i p → Live p → Live q
after {i = i} m l = record { items = i ∷ l.items; rest = rest_move m l.rest }

a_plain : plain_char 0x3042 ≡ true
unfolding plain_char text_char code_ok listed class_of in_list lists
a_plain = refl

a_text : text_char 0x3042 ≡ true
unfolding text_char code_ok
a_text = refl

from_outside : Live outside
from_outside = record { items = spell []; rest = pieces [] tt }

from_closing : Live closing
from_closing = after close from_outside

from_bare : Live in_bare
from_bare = after end_bare from_closing

from_last : Live in_last
from_last = after end_last from_closing

from_rp : Live rp_due
from_rp = after open_last from_last

from_fenced : Live in_fenced
from_fenced = after end_fenced from_rp

from_fenced_opened : Live fenced_opened
from_fenced_opened = after (first_fenced a_text) from_fenced

from_rt : Live rt_due
from_rt = after open_fenced from_fenced_opened

from_bare_opened : Live bare_opened
from_bare_opened = after (first_bare a_text) from_bare

from_base : Live in_base
from_base = after open_bare from_bare_opened

pub live : (q : Spot) → Live q
live outside = from_outside
live opened = after (first_base a_plain) from_base
live in_base = from_base
live bare_opened = from_bare_opened
live in_bare = from_bare
live in_first = after end_first from_rt
live rt_due = from_rt
live fenced_opened = from_fenced_opened
live in_fenced = from_fenced
live rp_due = from_rp
live in_last = from_last
live closing = from_closing
