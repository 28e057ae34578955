-- What the loop that reads a text holds, kept by a turn at a character. Assumes nothing.
use Rattle.std.proofs.Common.{◌≡◌, refl, sym, ap, ◌∙◌, ℕ, suc, ◌+◌, ◌≤◌, add-zero, arith, true, false, cond, List, []}
use Rattle.std.proofs.Common.{◌∷◌, ◌++◌, map, append_assoc, append-nil, length, take, length-append}
use Rattle.std.proofs.Math.Seq.{paste}
use Rattle.std.proofs.lemmas.List.Edits.{paste_none}
use mathlib.Core.List.{map-append}
use Rattle.rules.specs.Layout.{record_length}
use Rattle.rules.specs.Records.{Rec, record_words}
use Rattle.leaflet.specs.Items.{Item, char}
use Rattle.leaflet.specs.Imported.{as_word, record_of}
use Rattle.leaflet.specs.Spots.{Spot, outside, in_base, is_outside, becomes_record}
use Rattle.leaflet.specs.Written.{chars_before_tag, rt_ahead, in_rt, due, kept, written}
use Rattle.leaflet.specs.Enums.{words_of}
use Rattle.std.proofs.lemmas.Bool.{true≢false}
use Rattle.leaflet.proofs.SpotMoves.{Move, single_char, first_base, more_base, first_bare, more_bare, more_first}
use Rattle.leaflet.proofs.SpotMoves.{first_fenced, more_fenced, more_last}
use Rattle.leaflet.proofs.WrittenRecords.{written_char}
use Rattle.leaflet.proofs.PutWords.{put_there, put_before, words_append}
use Rattle.leaflet.proofs.ReadHeld.{pending, before_rt, Held, none_open, passing}

module _ {s : ℕ} {all out : List ℕ} where
  -- a turn at a character of a base: its record comes to those of the base
  module _ {q : Spot} {k n g i : ℕ} {c : ℕ} {is : List Item} (h : Held s all out q k n g i (char c ∷ is))
      (words : words_of s q k c ≡ record_words (record_of s (as_word k) 0 c ∷ []))
      (same : due q n (char c ∷ is) ≡ rt_ahead is)
      (rest : written s q k (rt_ahead is) (char c ∷ is)
      ≡ record_of s (as_word k) (as_word (rt_ahead is)) c ∷ written s in_base k (rt_ahead is) is)
      (none_yet : before_rt q ≡ true) {e : List ℕ} {j : ℕ} (e₁ : j ≡ i + length (words_of s q k c))
      (e₂ : e ≡ paste out i (words_of s q k c) (length (words_of s q k c)))
      (room : i + length (words_of s q k c) ≤ length out) where
    more_in_base : Held s all e in_base k n g j is
    unfolding record_words
    more_in_base =
        let f : ℕ → ℕ → Rec = λ d b. record_of s (as_word k) d b in
        let b = h.base in
        let ws = words_of s q k c in
        let N = rt_ahead is in
        let W = written s in_base k N is in
        let start : take g e ≡ take g out
        = ap (take g) e₂ ∙ put_before out ws i room g (omega (arith, h.reached)) in
        let bases : (d : ℕ) → record_words (map (f d) (b ++ (c ∷ []))) ≡
        record_words (map (f d) b) ++ record_words (f d c ∷ [])
        = λ d. ap record_words (map-append (f d) b (c ∷ [])) ∙ words_append (map (f d) b) (f d c ∷ []) in
        let six : length ws ≡ record_length = ap length words in
        record {
          base = b ++ (c ∷ []);
          reached = omega (arith, e₁, six, h.reached, length-append b (c ∷ []));
          settled = λ x. absurd (true≢false x);
          fresh = λ x. h.fresh none_yet;
          there =
              ap (λ m. take m e) e₁ ∙ ap (take (i + length ws)) e₂ ∙ put_there out ws i room
              ∙ ap (λ v. v ++ ws) h.there ∙ append_assoc (take g out) (record_words (map (f 0) b)) ws
              ∙ ap (λ v. take g out ++ (record_words (map (f 0) b) ++ v)) words
              ∙ ap (λ v. take g out ++ v) (sym (bases 0))
              ∙ ap (λ v. v ++ record_words (map (f 0) (b ++ (c ∷ [])))) (sym start);
          whole =
              ap (λ v. v ++ record_words (map (f (as_word N)) (b ++ (c ∷ [])) ++ W)) start
              ∙ ap (λ v. take g out ++ record_words (v ++ W)) (map-append (f (as_word N)) b (c ∷ []))
              ∙ ap (λ v. take g out ++ record_words v) (append_assoc (map (f (as_word N)) b) (f (as_word N) c ∷ []) W)
              ∙ ap (λ v. take g out ++ record_words (map (f (as_word N)) b ++ v)) (sym rest)
              ∙ ap (λ d. take g out ++ record_words (map (f (as_word d)) b ++ written s q k d (char c ∷ is))) (sym same)
              ∙ h.whole;
        }

  -- a turn at a character outside ruby elements: its record is whole
  plain_char : {c k n g i : ℕ} {is : List Item} → Move outside (char c) outside →
      Held s all out outside k n g i (char c ∷ is) → {e : List ℕ} {j : ℕ} →
      j ≡ i + length (words_of s outside k c) →
      e ≡ paste out i (words_of s outside k c) (length (words_of s outside k c)) →
      i + length (words_of s outside k c) ≤ length out → Held s all e outside k n j j is
  unfolding words_of kept record_words
  plain_char {c} {k} {n} {g} {i} {is} m h {e} {j} e₁ e₂ r =
      let ws = words_of s outside k c in
      let W = written s outside k n is in
      let now_there : take j e ≡ take i out ++ ws
      = ap (λ x. take x e) e₁ ∙ ap (take (i + length ws)) e₂ ∙ put_there out ws i r in
      record {
        base = [];
        reached = omega arith;
        settled = λ x. refl;
        fresh = λ x. absurd (true≢false (sym x));
        there = sym (append-nil (take j e));
        whole =
            ap (λ v. v ++ record_words W) now_there ∙ append_assoc (take i out) ws (record_words W)
            ∙ ap (λ v. take i out ++ record_words v) (sym (written_char s k n is m)) ∙ none_open h refl;
      }

  -- a turn at a character of an rt or rp: it has no record
  module _ {q p : Spot} {c k n m g i : ℕ} {is : List Item} (x : Move q (char c) p) (w : becomes_record q ≡ false)
      (h : Held s all out q k n g i (char c ∷ is)) {e : List ℕ} {j : ℕ} (e₁ : j ≡ i + length (words_of s q k c))
      (e₂ : e ≡ paste out i (words_of s q k c) (length (words_of s q k c)))
      (same : due p m is ≡ due q n (char c ∷ is)) (settles : pending p ≡ false → pending q ≡ false)
      (freshens : before_rt p ≡ true → m ≡ 0) where
    unkept : Held s all e p k m g j is
    unfolding words_of kept record_words
    unkept =
        let f₁ : j ≡ i + 0 = rw w at e₁ in
        let f₂ : e ≡ paste out i [] 0 = rw w at e₂ in
        rw (f₁ ∙ add-zero i, f₂ ∙ sym (paste_none out i []))
        (passing h same (written_char s k _ is x ∙ rw w) settles freshens)

  -- a turn at a character
  pub held_char : {q p : Spot} {c k n g i : ℕ} {is : List Item} → Move q (char c) p →
      Held s all out q k n g i (char c ∷ is) → {e : List ℕ} {j : ℕ} → j ≡ i + length (words_of s q k c) →
      e ≡ paste out i (words_of s q k c) (length (words_of s q k c)) → i + length (words_of s q k c) ≤ length out →
      Held s all e p k (cond (in_rt q) (suc n) n) (cond (is_outside q) j g) j is
  unfolding words_of kept record_words as_word rt_ahead chars_before_tag
  held_char (single_char x) h e₁ e₂ r = plain_char (single_char x) h e₁ e₂ r
  held_char {k = k} {is = is} (first_base x) h e₁ e₂ r =
      more_in_base h refl refl (written_char s k (rt_ahead is) is (first_base x)) refl e₁ e₂ r
  held_char {k = k} {is = is} (more_base x) h e₁ e₂ r =
      more_in_base h refl refl (written_char s k (rt_ahead is) is (more_base x)) refl e₁ e₂ r
  held_char (first_bare x) h e₁ e₂ r =
      unkept (first_bare x) refl h e₁ e₂ (omega arith) (λ y. absurd (true≢false y)) (λ y. absurd (true≢false (sym y)))
  held_char (more_bare x) h e₁ e₂ r =
      unkept (more_bare x) refl h e₁ e₂ (omega arith) (λ y. absurd (true≢false y)) (λ y. absurd (true≢false (sym y)))
  held_char (more_first x) h e₁ e₂ r =
      unkept (more_first x) refl h e₁ e₂ refl (λ y. absurd (true≢false y)) (λ y. h.fresh refl)
  held_char (first_fenced x) h e₁ e₂ r =
      unkept (first_fenced x) refl h e₁ e₂ (omega arith) (λ y. absurd (true≢false y))
      (λ y. absurd (true≢false (sym y)))
  held_char (more_fenced x) h e₁ e₂ r =
      unkept (more_fenced x) refl h e₁ e₂ (omega arith) (λ y. absurd (true≢false y))
      (λ y. absurd (true≢false (sym y)))
  held_char (more_last x) h e₁ e₂ r =
      unkept (more_last x) refl h e₁ e₂ refl (λ y. refl) (λ y. absurd (true≢false (sym y)))
