-- What is proved of the published lists, in reading order. That they are Annex A's is no theorem: for that stand the
-- script that writes them, these counts, and a second copy, taken from the source in another way, with which every
-- answer of the exports is compared. Assumes nothing.
use Rattle.std.proofs.Common.{◌≡◌, refl, sym, ◌∙◌, ℕ, arith, Bool, true, false, cond, ◌∷◌, [], inl, inr, ◌↔◌}
use Rattle.lists.specs.ListsTo16.{opening_brackets, closing_brackets, hyphens, dividing_marks, middle_dots}
use Rattle.lists.specs.ListsTo16.{full_stops, commas, inseparable, iteration_marks, prolonged_sound_mark}
use Rattle.lists.specs.ListsTo16.{small_kana, prefixed_abbreviations, postfixed_abbreviations}
use Rattle.lists.specs.ListsTo16.{full_width_space, hiragana, katakana}
use Rattle.lists.specs.List19.{ideographic}
use Rattle.lists.specs.List27.{western}
use Rattle.lists.specs.Lists.{lists, in_list, class_of}
use Rattle.lists.specs.Meanings.{Belongs, Gets, gets_western, gets_lowest, gets_none}
use Rattle.std.proofs.lemmas.Bool.{cases_lt, true≢false}
use Rattle.lists.proofs.CodeCounts.{counts}
use Rattle.lists.proofs.Has.{lists_belong, belong_lists}
use Rattle.lists.proofs.Lowest.{ascending, Lowest, lowest_found, lowest_none, lowest_is}
use Rattle.lists.proofs.in_list.Statement as in_list_contract
use Rattle.lists.proofs.in_list.Met as in_list_met
use Rattle.lists.proofs.class_of.Statement as class_of_contract
use Rattle.lists.proofs.class_of.Met as class_of_met

-- each list of Annex A has as many code points as the source has entries of one; class 19 without the ideographs
pub counted_to_16 :
    counts
    (opening_brackets ∷ closing_brackets ∷ hyphens ∷ dividing_marks ∷ middle_dots ∷ full_stops ∷ commas ∷ inseparable ∷
    iteration_marks ∷ prolonged_sound_mark ∷ small_kana ∷ prefixed_abbreviations ∷ postfixed_abbreviations ∷
    full_width_space ∷ hiragana ∷ katakana ∷ [])
    ≡ 16 ∷ 16 ∷ 4 ∷ 6 ∷ 3 ∷ 2 ∷ 2 ∷ 6 ∷ 6 ∷ 1 ∷ 40 ∷ 6 ∷ 32 ∷ 1 ∷ 74 ∷ 78 ∷ []
unfolding
    opening_brackets closing_brackets hyphens dividing_marks middle_dots full_stops commas inseparable iteration_marks
    prolonged_sound_mark small_kana prefixed_abbreviations postfixed_abbreviations full_width_space hiragana katakana
counted_to_16 = refl

pub counted_19_and_27 : counts (ideographic ∷ western ∷ []) ≡ 464 ∷ 767 ∷ []
unfolding ideographic western
counted_19_and_27 = refl

-- the lists stand in ascending order of their classes
ascend : ascending 1 lists ≡ true
unfolding lists
ascend = refl

-- the question says yes exactly where the class's list has the code point
pub in_list_means : (c k : ℕ) → (in_list c k ≡ true) ↔ Belongs c k lists
unfolding in_list
in_list_means c k = (λ e. lists_belong c k lists e, λ b. belong_lists c k lists b)

-- and a code point gets its class by the rule, which gives it one only
pub class_of_means : (k : ℕ) → Gets k (class_of k)
unfolding class_of
class_of_means k = cases (in_list 27 k) refl (lowest_is k 1 lists ascend)
  where
    cases : (t : Bool) → in_list 27 k ≡ t → {c : ℕ} → Lowest k lists c → Gets k (cond t 27 c)
    cases true q l = gets_western ((in_list_means 27 k).0 q)
    cases false q (lowest_found b g) =
        gets_lowest (λ w. true≢false (sym ((in_list_means 27 k).1 w) ∙ q)) b g
    cases false q (lowest_none g) = gets_none g

pub one_class : (k c d : ℕ) → Gets k c → Gets k d → c ≡ d
one_class k c d (gets_western w) (gets_western v) = refl
one_class k c d (gets_western w) (gets_lowest f b g) = absurd (f w)
one_class k c d (gets_western w) (gets_none g) = absurd (g 27 w)
one_class k c d (gets_lowest f b g) (gets_western w) = absurd (f w)
one_class k c d (gets_lowest f b g) (gets_lowest e a h) =
    elim (cases_lt c d) [
      | inl l ↦ absurd (h c l b)
      | inr l ↦ elim (cases_lt d c) [ inl m ↦ absurd (g d m a) | inr m ↦ omega arith ]
    ]
one_class k c d (gets_lowest f b g) (gets_none h) = absurd (h c b)
one_class k c d (gets_none g) (gets_western w) = absurd (g 27 w)
one_class k c d (gets_none g) (gets_lowest f b h) = absurd (g d b)
one_class k c d (gets_none g) (gets_none h) = refl

-- the program answers both for any numbers
pub in_list_meets : {M : Type 1} → in_list_contract.statement M
in_list_meets = in_list_met.met

pub class_of_meets : {M : Type 1} → class_of_contract.statement M
class_of_meets = class_of_met.met
