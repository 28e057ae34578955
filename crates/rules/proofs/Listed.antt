-- Answer 12 and the published lists. Assumes nothing.
use Rattle.std.proofs.Common.{◌≡◌, refl, sym, ℕ, arith, Bool, true, ◌&&◌, ◌||◌, List, [], ◌∷◌, map, ◌↔◌, inl, inr}
use Rattle.std.proofs.Common.{None, Some, eqb, leb, ltb, leb-true, ltb-true, le-leb, eqb-true}
use Rattle.std.proofs.Math.Bool.{and-eq-true_iff}
use borrow.Author.Tests.{lt-leb}
use Rattle.lists.specs.Ranges.{Range, range, in_range, has_code}
use Rattle.lists.specs.Lists.{ClassList, list, in_lists, in_list, lists}
use Rattle.lists.proofs.Claims.{in_list_means}
use Rattle.rules.specs.Basics.{is_in}
use Rattle.rules.specs.Limits.{highest_code}
use Rattle.rules.specs.Records.{Rec, code_ok, classes, class_ok, size_ok, advance_kind, advance_fits}
use Rattle.rules.specs.Records.{advance_ok, group_ok, rec_ok}
use Rattle.rules.specs.Listed.{is_listed, not_listed}
use Rattle.rules.specs.Meanings.{All, all_none, all_more, FirstLacking, Listed}
use Rattle.std.proofs.lemmas.Bool.{cases_Bool, true≢false}
use Rattle.rules.proofs.FirstFailing.{none_fails, all_pass, fails_first, lacking_fails}

-- the class whose list it is
abbrev pub class_in : ClassList → ℕ
class_in (list c rs) = c

pub classes_listed : map class_in lists ≡ classes
unfolding lists classes
classes_listed = refl

record_listed : (r : Rec) → (is_listed r ≡ true) ↔ Listed r
unfolding is_listed
record_listed r = in_list_means r.class r.code

-- a property in place of its test
pub each : {P Q : Rec → Type 0} → ((r : Rec) → P r → Q r) → {rs : List Rec} → All P rs → All Q rs
each f all_none = all_none
each f (all_more {a = r} p h) = all_more (f r p) (each f h)

other : {P Q : Rec → Type 0} → ((r : Rec) → P r ↔ Q r) → (rs : List Rec) (i : ℕ) → FirstLacking P rs i →
    FirstLacking Q rs i
other f rs i l =
    record {
      before = l.before;
      here = l.here;
      after = l.after;
      all = l.all;
      have = each (λ r. (f r).0) l.have;
      lacks = λ q. l.lacks ((f l.here).1 q);
      place = l.place;
    }

pub all_listed : (rs : List Rec) → (not_listed 0 rs ≡ None) ↔ All Listed rs
unfolding not_listed
all_listed rs = (
  λ e. each (λ r. (record_listed r).0) (none_fails is_listed 0 rs e),
  λ h. all_pass is_listed 0 (each (λ r. (record_listed r).1) h),
)

pub first_not_listed : (rs : List Rec) (i : ℕ) → (not_listed 0 rs ≡ Some i) ↔ FirstLacking Listed rs i
unfolding not_listed
first_not_listed rs i = (
  λ e. other record_listed rs i (fails_first is_listed i rs e),
  λ l. lacking_fails is_listed i rs (other (λ r. ((record_listed r).1, (record_listed r).0)) rs i l),
)

-- what is in a list keeps two of a record's own rules: each list is a class's, and has code points in order ---------

abbrev ordinary : Range → Bool
ordinary (range a b) = leb b highest_code && (ltb b 0xD800 || ltb 0xDFFF a)

abbrev all_ordinary : List Range → Bool
all_ordinary [] = true
all_ordinary (r ∷ rs) = ordinary r && all_ordinary rs

abbrev lists_ordinary : List ClassList → Bool
lists_ordinary [] = true
lists_ordinary (list n rs ∷ ls) = is_in n classes && (all_ordinary rs && lists_ordinary ls)

lists_are_ordinary : lists_ordinary lists ≡ true
unfolding lists classes
lists_are_ordinary = refl

range_code : (k : ℕ) (r : Range) → ordinary r ≡ true → in_range k r ≡ true → code_ok k ≡ true
unfolding code_ok
range_code k (range a b) o h =
    let in_it = (and-eq-true_iff (leb a k) (leb k b)).0 h in
    let low = leb-true a k in_it.0 in
    let high = leb-true k b in_it.1 in
    let both = (and-eq-true_iff (leb b highest_code) _).0 o in
    let most = leb-true b highest_code both.0 in
    elim (cases_Bool (ltb b 0xD800)) [
      | inl e ↦ let l = ltb-true b 0xD800 e in rw (le-leb k highest_code (omega arith), lt-leb 0xD800 k (omega arith))
      | inr e ↦
          let f : ltb 0xDFFF a ≡ true = rw e at both.1 in
          let l = ltb-true 0xDFFF a f in
          rw (le-leb k highest_code (omega arith), le-leb 0xD800 k (omega arith), lt-leb k 0xDFFF (omega arith))
    ]

ranges_code : (k : ℕ) (rs : List Range) → all_ordinary rs ≡ true → has_code k rs ≡ true → code_ok k ≡ true
ranges_code k [] o h = absurd (true≢false (sym h))
ranges_code k (r ∷ rs) o h =
    let both = (and-eq-true_iff (ordinary r) (all_ordinary rs)).0 o in
    elim (cases_Bool (in_range k r)) [
      | inl e ↦ range_code k r both.0 e
      | inr e ↦ ranges_code k rs both.1 (rw e at h)
    ]

lists_code : (c k : ℕ) (ls : List ClassList) → lists_ordinary ls ≡ true → in_lists c k ls ≡ true →
    (code_ok k ≡ true) × (class_ok c ≡ true)
unfolding class_ok
lists_code c k [] o h = absurd (true≢false (sym h))
lists_code c k (list n rs ∷ ls) o h =
    let both = (and-eq-true_iff (is_in n classes) _).0 o in
    let more = (and-eq-true_iff (all_ordinary rs) (lists_ordinary ls)).0 both.1 in
    elim (cases_Bool (eqb c n && has_code k rs)) [
      | inl e ↦
          let q = (and-eq-true_iff (eqb c n) (has_code k rs)).0 e in
          (ranges_code k rs more.0 q.1, rw (eqb-true c n q.0) both.0)
      | inr e ↦ lists_code c k ls more.1 (rw e at h)
    ]

pub listed_code : (r : Rec) → is_listed r ≡ true → (code_ok r.code ≡ true) × (class_ok r.class ≡ true)
unfolding is_listed in_list
listed_code r h = lists_code r.class r.code lists lists_are_ordinary h

-- what is left to ask of a record of no group that is listed
pub plain_rules : (r : Rec) → is_listed r ≡ true → r.group ≡ 0 →
    rec_ok r ≡ (size_ok r.size && advance_fits (advance_kind r.class) r.size r.advance && eqb r.ruby 0)
unfolding rec_ok advance_ok group_ok
plain_rules r h g = let l = listed_code r h in rw (l.0, l.1, g)

pub listed_class : (c k : ℕ) → in_list c k ≡ true → class_ok c ≡ true
unfolding in_list
listed_class c k h = (lists_code c k lists lists_are_ordinary h).1

-- what `plain_ok` rests on
pub ruleset plain_laws = (plain_rules, listed_class)
