-- What the loop that reads a text holds where there is no more room for a record. Assumes nothing.
use Rattle.std.proofs.Common.{◌≡◌, refl, sym, ap, ℕ, ◌-◌, ◌/◌, ◌≤◌, arith, true, List, ◌++◌, length, take}
use Rattle.rules.specs.Layout.{record_length}
use Rattle.rules.specs.Records.{record_words}
use Rattle.leaflet.specs.Items.{Item}
use Rattle.leaflet.specs.Imported.{as_word}
use Rattle.leaflet.specs.Spots.{Spot, outside, opened, in_base, bare_opened, in_bare, in_first, rt_due}
use Rattle.leaflet.specs.Spots.{fenced_opened, in_fenced, rp_due, in_last, closing, becomes_record}
use Rattle.leaflet.specs.Written.{rt_ahead, written, rubied, rubied_to}
use Rattle.std.proofs.lemmas.Bool.{true≢false}
use Rattle.leaflet.proofs.ReadHeld.{Held, none_open, with_ruby}

-- all words are those up to i, where those from g on get the ruby count of the rt ahead, and then others
pub record RubyAhead (all out : List ℕ) (g i : ℕ) (is : List Item) : Type 0 where
  pub later : List ℕ
  pub whole : take i (rubied_to g i (as_word (rt_ahead is)) out) ++ later ≡ all

module _ {s : ℕ} {all out : List ℕ} where
  -- where a base or plain character is next, the rt ahead tells the ruby count
  pub held_ahead : (q : Spot) {k n g i : ℕ} {is : List Item} → Held s all out q k n g i is → i ≤ length out →
      becomes_record q ≡ true → RubyAhead all out g i is
  unfolding rubied
  held_ahead outside {k} {n} {g} {i} {is} h f e =
      let m : (i - g) / record_length ≡ 0 = omega (arith, h.reached, ap length (h.settled refl)) in
      record { later = record_words (written s outside k n is); whole = rw m (none_open h refl) }
  held_ahead opened {k} {n} {g} {i} {is} h f e =
      record { later = record_words (written s opened k (rt_ahead is) is); whole = with_ruby h (rt_ahead is) f refl }
  held_ahead in_base {k} {n} {g} {i} {is} h f e =
      record { later = record_words (written s in_base k (rt_ahead is) is); whole = with_ruby h (rt_ahead is) f refl }
  held_ahead bare_opened h f e = absurd (true≢false (sym e))
  held_ahead in_bare h f e = absurd (true≢false (sym e))
  held_ahead in_first h f e = absurd (true≢false (sym e))
  held_ahead rt_due h f e = absurd (true≢false (sym e))
  held_ahead fenced_opened h f e = absurd (true≢false (sym e))
  held_ahead in_fenced h f e = absurd (true≢false (sym e))
  held_ahead rp_due h f e = absurd (true≢false (sym e))
  held_ahead in_last h f e = absurd (true≢false (sym e))
  held_ahead closing h f e = absurd (true≢false (sym e))
