-- What the loop that reads a text holds, kept by a turn at a tag. Assumes nothing.
use Rattle.std.proofs.Common.{◌≡◌, refl, sym, ap, ◌∙◌, ℕ, suc, ◌≤◌, add-zero, arith, false, List, [], ◌∷◌, ◌++◌, map}
use Rattle.std.proofs.Common.{append-nil, length, take}
use Rattle.rules.specs.Records.{record_words}
use Rattle.leaflet.specs.Items.{Item, tag, Tag}
use Rattle.leaflet.specs.Imported.{as_word, record_of}
use Rattle.leaflet.specs.Spots.{Spot, outside, opened, bare_opened, fenced_opened}
use Rattle.leaflet.specs.Written.{chars_before_tag, rt_ahead, if_ruby, if_rt_end, due, written, rubied_to}
use Rattle.std.proofs.lemmas.Bool.{true≢false}
use Rattle.leaflet.proofs.SpotMoves.{Move, open_ruby, open_bare, end_bare, open_first, end_first, open_fenced}
use Rattle.leaflet.proofs.SpotMoves.{end_fenced, open_last, end_last, close}
use Rattle.leaflet.proofs.WrittenRecords.{written_tag}
use Rattle.leaflet.proofs.ReadHeld.{before_rt, Held, none_open, with_ruby, passing}

module _ {s : ℕ} {all out : List ℕ} where
  -- a turn at the start of a ruby element
  opening : {k n g i : ℕ} {is : List Item} → Held s all out outside k n g i (tag Tag.ruby ∷ is) →
      Held s all out opened (suc k) 0 g i is
  unfolding record_words
  opening {k} {n} {g} {i} {is} h =
      let z = h.settled refl in
      let upto : i ≡ g = omega (arith, h.reached, ap length z) in
      record {
        base = [];
        reached = omega (arith, upto);
        settled = λ x. absurd (true≢false x);
        fresh = λ x. refl;
        there = h.there ∙ ap (λ b. take g out ++ record_words (map (record_of s (as_word k) 0) b)) z;
        whole =
            ap (λ v. take g out ++ record_words v) (sym (written_tag s k n is open_ruby))
            ∙ ap (λ x. take x out ++ record_words (written s outside k n (tag Tag.ruby ∷ is))) (sym upto)
            ∙ none_open h refl;
      }

  -- a turn at the end of an rt
  module _ {q p : Spot} {k n g i : ℕ} {is : List Item} (h : Held s all out q k n g i (tag Tag.rt_end ∷ is))
      (same : due q n (tag Tag.rt_end ∷ is) ≡ n) (after : due p n is ≡ n)
      (rest : written s q k n (tag Tag.rt_end ∷ is) ≡ written s p k n is) (fits : i ≤ length out)
      (freshens : before_rt p ≡ false) where
    rt_ended : Held s all (rubied_to g i (as_word n) out) p k n i i is
    unfolding record_words
    rt_ended =
        let e = rubied_to g i (as_word n) out in
        record {
          base = [];
          reached = omega arith;
          settled = λ x. refl;
          fresh = λ x. absurd (true≢false (sym x ∙ freshens));
          there = sym (append-nil (take i e));
          whole =
              ap (λ d. take i e ++ record_words (written s p k d is)) after
              ∙ ap (λ v. take i e ++ record_words v) (sym rest) ∙ with_ruby h n fits same;
        }

  -- a turn at a tag
  pub held_tag : {q p : Spot} {t : Tag} {k n g i : ℕ} {is : List Item} → Move q (tag t) p →
      Held s all out q k n g i (tag t ∷ is) → i ≤ length out →
      Held s all (if_rt_end t (rubied_to g i (as_word n) out) out) p (if_ruby t (suc k) k) (if_ruby t 0 n)
      (if_rt_end t i g) i is
  unfolding rt_ahead chars_before_tag
  held_tag open_ruby h f = opening h
  held_tag {k = k} {n = n} {is = is} open_bare h f =
      passing {p = bare_opened} {m = n} {js = is} h (omega (arith, h.fresh refl)) (written_tag s k _ is open_bare)
      (λ y. absurd (true≢false y)) (λ y. absurd (true≢false (sym y)))
  held_tag {k = k} {n = n} {is = is} end_bare h f =
      rt_ended h (add-zero n) refl (written_tag s k n is end_bare) f refl
  held_tag {k = k} {is = is} open_first h f =
      passing h refl (written_tag s k _ is open_first) (λ y. absurd (true≢false y)) (λ y. h.fresh refl)
  held_tag {k = k} {is = is} end_first h f =
      passing h refl (written_tag s k _ is end_first) (λ y. absurd (true≢false y)) (λ y. h.fresh refl)
  held_tag {k = k} {n = n} {is = is} open_fenced h f =
      passing {p = fenced_opened} {m = n} {js = is} h (omega (arith, h.fresh refl)) (written_tag s k _ is open_fenced)
      (λ y. absurd (true≢false y)) (λ y. absurd (true≢false (sym y)))
  held_tag {k = k} {n = n} {is = is} end_fenced h f =
      rt_ended h (add-zero n) refl (written_tag s k n is end_fenced) f refl
  held_tag {k = k} {is = is} open_last h f =
      passing h refl (written_tag s k _ is open_last) (λ y. refl) (λ y. absurd (true≢false (sym y)))
  held_tag {k = k} {is = is} end_last h f =
      passing h refl (written_tag s k _ is end_last) (λ y. refl) (λ y. absurd (true≢false (sym y)))
  held_tag {k = k} {is = is} close h f =
      passing h refl (written_tag s k _ is close) (λ y. refl) (λ y. absurd (true≢false (sym y)))
