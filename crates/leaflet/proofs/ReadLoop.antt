-- The loop that reads a text into records, as steps: what it starts with, and a turn at a character and at a tag.
-- Assumes nothing.
use Rattle.std.proofs.Common.{◌≡◌, refl, sym, ◌∙◌, ℕ, suc, ◌+◌, ◌-◌, ◌%◌, ◌≤◌, ◌<◌, arith, Bool, true, false, cond}
use Rattle.std.proofs.Common.{List, [], length, Ok}
use Rattle.std.proofs.Common.{Some}
use Rattle.std.proofs.Math.Seq.{length-paste}
use Rattle.rules.specs.Layout.{record_length}
use Rattle.rules.specs.Records.{record_words}
use Rattle.leaflet.specs.Items.{char, tag, Tag}
use Rattle.leaflet.specs.Imported.{as_word}
use Rattle.leaflet.specs.Decoding.{found, next}
use Rattle.leaflet.specs.Spots.{Spot, outside, step}
use Rattle.leaflet.specs.Reader.{fault_in, items_from}
use Rattle.leaflet.specs.Written.{if_ruby, if_rt_end, in_rt, written, room}
use Rattle.leaflet.specs.Enums.{tag_of, item_of, spot_of, words_of, Putting, put}
use Rattle.leaflet.specs.Past.{CharacterPassed, TagPassed, Past, character, markup}
use Rattle.leaflet.specs.declared.spots.Tag.{Tag as TagEnum}
use Rattle.leaflet.specs.declared.spots.Item.{Item as ItemEnum}
use Rattle.leaflet.specs.declared.spots.Item.TheVariants.{Character, Markup}
use Rattle.leaflet.specs.declared.progress.Progress.{Progress}
use Rattle.leaflet.proofs.FaultSteps.{fault_at, fault_past}
use Rattle.leaflet.proofs.ItemsFrom.{items_next}
use Rattle.leaflet.proofs.SpotMoves.{step_move}
use Rattle.leaflet.proofs.PutRuby.{length_rubied}
use Rattle.leaflet.proofs.ReadHeld.{Held}
use Rattle.leaflet.proofs.ReadHeldChars.{held_char}
use Rattle.leaflet.proofs.ReadHeldTags.{held_tag}

-- the loop where `rest` is left, at a spot: k groups are begun, the last has had n ruby characters, i words are put,
-- and those before g have their ruby counts
pub record Loop (text : List ℕ) (size : ℕ) (out rest : List ℕ) (q : Spot) (k n i g : ℕ) : Type 0 where
  pub walked : fault_at (length text) q rest ≡ fault_in text
  pub begun : k + length rest ≤ length text
  pub counted : n + length rest ≤ length text
  pub long : length out ≡ room
  pub fits : i ≤ room
  pub ordered : g ≤ i
  pub whole : i % record_length ≡ 0
  pub whole_before : g % record_length ≡ 0
  pub held : Held size (record_words (written size outside 0 0 (items_from text))) out q k n g i (items_from rest)

-- where a reader has got to
abbrev pub At : (text : List ℕ) (size : ℕ) (out rest : List ℕ) → Progress → Type 0
At text size out rest a = Loop text size out rest (spot_of a.spot) a.groups a.ruby a.end a.start

-- a tag begins one group at most, and a character is one ruby character at most
if_ruby_few : (t : Tag) (k : ℕ) → if_ruby t (suc k) k ≤ suc k
if_ruby_few Tag.ruby k = omega arith
if_ruby_few Tag.ruby_end k = omega arith
if_ruby_few Tag.rt k = omega arith
if_ruby_few Tag.rt_end k = omega arith
if_ruby_few Tag.rp k = omega arith
if_ruby_few Tag.rp_end k = omega arith

if_ruby_none : (t : Tag) (n : ℕ) → if_ruby t 0 n ≤ n
if_ruby_none Tag.ruby n = omega arith
if_ruby_none Tag.ruby_end n = omega arith
if_ruby_none Tag.rt n = omega arith
if_ruby_none Tag.rt_end n = omega arith
if_ruby_none Tag.rp n = omega arith
if_ruby_none Tag.rp_end n = omega arith

counted_few : (b : Bool) (n : ℕ) → cond b (suc n) n ≤ suc n
counted_few true n = omega arith
counted_few false n = omega arith

-- words that get their ruby counts, or not, are as many
length_settled : (t : Tag) (ws vs : List ℕ) → length vs ≡ length ws → length (if_rt_end t vs ws) ≡ length ws
length_settled Tag.ruby ws vs e = refl
length_settled Tag.ruby_end ws vs e = refl
length_settled Tag.rt ws vs e = refl
length_settled Tag.rt_end ws vs e = e
length_settled Tag.rp ws vs e = refl
length_settled Tag.rp_end ws vs e = refl

pub loop_start : (text : List ℕ) (size : ℕ) {out : List ℕ} → length out ≡ room →
    Loop text size out text outside 0 0 0 0
unfolding record_words fault_in
loop_start text size e =
    let none : length text - length text ≡ 0 = omega arith in
    record {
      walked = rw none;
      begun = omega arith;
      counted = omega arith;
      long = e;
      fits = omega arith;
      ordered = omega arith;
      whole = refl;
      whole_before = refl;
      held =
          record {
            base = [];
            reached = refl;
            settled = λ x. refl;
            fresh = λ x. refl;
            there = refl;
            whole = refl;
          };
    }

module _ {text : List ℕ} {size : ℕ} {out rest : List ℕ} (a : Progress) (l : At text size out rest a) where
  past_char : (c : ℕ) (ds : List ℕ) {e : List ℕ} {b : Progress} → found (char c) ds ≡ next rest →
      length ds < length rest → CharacterPassed size out e a c b →
      Putting out e a.end size (spot_of a.spot) a.groups c (Ok b.end) → At text size e ds b
  unfolding step
  past_char c ds {b = b} f s h (put v e₁ e₂ r) =
      let q = spot_of a.spot in
      let there : step q (char c) ≡ Some (spot_of b.spot) = rw (step, v) h.leads in
      let few = counted_few (in_rt q) a.ruby in
      let ws = words_of size q a.groups c in
      let turn = held_char (step_move there) (rw (items_next rest (char c) ds (sym f)) at l.held) e₁ e₂
      (omega (arith, l.long, r)) in
      record {
        walked = sym (fault_past (length text) q rest (sym f) there (omega (arith, l.begun))) ∙ l.walked;
        begun = omega (arith, l.begun, h.groups);
        counted = omega (arith, l.counted, few, h.ruby);
        long = rw e₂ (length-paste out a.end ws (length ws) (omega (arith, l.long, r)) (omega arith)) ∙ l.long;
        fits = b.room;
        ordered = b.order;
        whole = b.whole;
        whole_before = b.whole_before;
        held = rw (h.ruby, h.start, h.groups) turn;
      }

  past_tag : (t : TagEnum) (ds : List ℕ) {e : List ℕ} {b : Progress} → found (tag (tag_of t)) ds ≡ next rest →
      length ds < length rest → TagPassed out e a t b → At text size e ds b
  past_tag t ds {b = b} f s h =
      let turn = held_tag (step_move h.leads) (rw (items_next rest (tag (tag_of t)) ds (sym f)) at l.held)
      (omega (arith, l.fits, l.long)) in
      record {
        walked =
            sym (fault_past (length text) (spot_of a.spot) rest (sym f) h.leads (omega (arith, l.begun))) ∙ l.walked;
        begun = omega (arith, l.begun, if_ruby_few (tag_of t) a.groups, h.groups);
        counted = omega (arith, l.counted, if_ruby_none (tag_of t) a.ruby, h.ruby);
        long = rw h.words (length_settled (tag_of t) out _ (length_rubied _ a.start (as_word a.ruby) out)) ∙ l.long;
        fits = b.room;
        ordered = b.order;
        whole = b.whole;
        whole_before = b.whole_before;
        held = rw (h.groups, h.ruby, h.words, h.start, h.end) turn;
      }

  pub loop_past : (i : ItemEnum) (ds : List ℕ) {e : List ℕ} {b : Progress} → found (item_of i) ds ≡ next rest →
      length ds < length rest → Past size out e a i (Ok b) → At text size e ds b
  loop_past (Character c) ds f s (character h) = past_char c ds f s h h.put
  loop_past (Markup t) ds f s (markup h) = past_tag t ds f s h
