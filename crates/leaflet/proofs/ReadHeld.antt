-- What the loop that reads a text holds: the words of the records up to a group whose rt has not ended, those of its
-- base, still without their ruby count, and what is left of the text; and what follows at any spot. Assumes nothing.
use Rattle.std.proofs.Common.{◌≡◌, sym, ap, ◌∙◌, ℕ, ◌+◌, ◌-◌, ◌*◌, ◌/◌, ◌≤◌, arith, Bool, true, false, List, [], ◌++◌}
use Rattle.std.proofs.Common.{map, append_assoc, append-nil, length, take, length-take-le}
use Rattle.rules.specs.Layout.{record_length}
use Rattle.rules.specs.Records.{Rec, record_words}
use Rattle.leaflet.specs.Items.{Item}
use Rattle.leaflet.specs.Imported.{as_word, record_of}
use Rattle.leaflet.specs.Spots.{Spot, outside, opened, in_base, bare_opened, in_bare, in_first, rt_due}
use Rattle.leaflet.specs.Spots.{fenced_opened, in_fenced, rp_due, in_last, closing}
use Rattle.leaflet.specs.Written.{due, written, rubied, rubied_to}
use Rattle.leaflet.proofs.PutWords.{words_append}
use Rattle.leaflet.proofs.PutRuby.{base_rubied}

-- Spots ---------------------------------------------------------------------------------------------------------------

-- a group is begun, and its rt has not ended
abbrev pub pending : Spot → Bool
pending outside = false
pending opened = true
pending in_base = true
pending bare_opened = true
pending in_bare = true
pending in_first = true
pending rt_due = true
pending fenced_opened = true
pending in_fenced = true
pending rp_due = false
pending in_last = false
pending closing = false

-- nor has it begun
abbrev pub before_rt : Spot → Bool
before_rt outside = false
before_rt opened = true
before_rt in_base = true
before_rt bare_opened = false
before_rt in_bare = false
before_rt in_first = true
before_rt rt_due = true
before_rt fenced_opened = false
before_rt in_fenced = false
before_rt rp_due = false
before_rt in_last = false
before_rt closing = false

-- What is held --------------------------------------------------------------------------------------------------------

pub record Held (s : ℕ) (all out : List ℕ) (q : Spot) (k n g i : ℕ) (is : List Item) : Type 0 where
  pub base : List ℕ
  pub reached : i ≡ g + record_length * length base
  pub settled : pending q ≡ false → base ≡ []
  pub fresh : before_rt q ≡ true → n ≡ 0
  pub there : take i out ≡ take g out ++ record_words (map (record_of s (as_word k) 0) base)
  pub whole : take g out ++ record_words (map (record_of s (as_word k) (as_word (due q n is))) base
      ++ written s q k (due q n is) is) ≡ all

module _ {s : ℕ} {all out : List ℕ} where
  -- where no group is open, all words are there
  pub none_open : {q : Spot} {k n g i : ℕ} {is : List Item} → Held s all out q k n g i is → pending q ≡ false →
      take i out ++ record_words (written s q k (due q n is) is) ≡ all
  unfolding record_words
  none_open {q} {k} {n} {g} {i} {is} h e =
      let z = h.settled e in
      let upto : take i out ≡ take g out
      = h.there ∙ ap (λ b. take g out ++ record_words (map (record_of s (as_word k) 0) b)) z
      ∙ append-nil (take g out) in
      ap (λ v. v ++ record_words (written s q k (due q n is) is)) upto
      ∙ ap (λ b. take g out ++ record_words (map (record_of s (as_word k) (as_word (due q n is))) b
      ++ written s q k (due q n is) is)) (sym z)
      ∙ h.whole

  -- the base's records get their ruby count: all words, and then what is left
  pub with_ruby : {q : Spot} {k n g i : ℕ} {is : List Item} (h : Held s all out q k n g i is) (m : ℕ) → i ≤ length out →
      due q n is ≡ m →
      take i (rubied_to g i (as_word m) out) ++ record_words (written s q k m is) ≡ all
  with_ruby {q} {k} {n} {g} {i} {is} h m fits same =
      let b = h.base in
      let f : ℕ → ℕ → Rec = λ d c. record_of s (as_word k) d c in
      let many : (i - g) / record_length ≡ length b = omega (arith, h.reached) in
      ap (λ x. take i (rubied x g (as_word m) out) ++ record_words (written s q k m is)) many
      ∙ ap (λ v. v ++ record_words (written s q k m is))
      (base_rubied s (as_word k) (as_word m) b (take g out) out g i
      (length-take-le g out (omega (arith, h.reached, fits))) h.reached h.there)
      ∙ append_assoc (take g out) (record_words (map (f (as_word m)) b)) (record_words (written s q k m is))
      ∙ ap (λ v. take g out ++ v) (sym (words_append (map (f (as_word m)) b) (written s q k m is)))
      ∙ ap (λ d. take g out ++ record_words (map (f (as_word d)) b ++ written s q k d is)) (sym same)
      ∙ h.whole

  -- a turn that puts nothing
  module _ {q p : Spot} {k n m g i : ℕ} {is js : List Item} (h : Held s all out q k n g i is)
      (same : due p m js ≡ due q n is) (rest : written s q k (due q n is) is ≡ written s p k (due q n is) js)
      (settles : pending p ≡ false → pending q ≡ false) (freshens : before_rt p ≡ true → m ≡ 0) where
    pub passing : Held s all out p k m g i js
    passing =
        record {
          base = h.base;
          reached = h.reached;
          settled = λ e. h.settled (settles e);
          fresh = freshens;
          there = h.there;
          whole =
              ap (λ d. take g out ++ record_words (map (record_of s (as_word k) (as_word d)) h.base
              ++ written s p k d js)) same
              ∙ ap (λ w. take g out ++ record_words (map (record_of s (as_word k) (as_word (due q n is))) h.base ++ w))
              (sym rest)
              ∙ h.whole;
        }
