-- A list's ranges have a code point exactly where the question says so. Assumes nothing.
use Rattle.std.proofs.Common.{◌≡◌, refl, sym, ℕ, Bool, true, false, ◌&&◌, ◌||◌, List, [], ◌∷◌, leb, eqb, leb-true}
use Rattle.std.proofs.Common.{le-leb, eqb-true, eq-eqb}
use Rattle.std.proofs.Math.Bool.{or-true, and-eq-true_iff}
use Rattle.lists.specs.Ranges.{Range, range, in_range, has_code}
use Rattle.lists.specs.Lists.{ClassList, list, in_lists}
use Rattle.lists.specs.Meanings.{Among, among_here, among_later, Has, Belongs}
use Rattle.std.proofs.lemmas.Bool.{true≢false}

later : {k : ℕ} {r : Range} {rs : List Range} → Has k rs → Has k (r ∷ rs)
later h =
    record { first = h.first; last = h.last; there = among_later h.there; low = h.low; high = h.high }

pub code_has : (k : ℕ) (rs : List Range) → has_code k rs ≡ true → Has k rs
code_has k [] e = absurd (true≢false (sym e))
code_has k (range a b ∷ rs) e = cases (in_range k (range a b)) refl (code_has k rs) e
  where
    cases : (t : Bool) → in_range k (range a b) ≡ t → (has_code k rs ≡ true → Has k rs) → (t || has_code k rs) ≡ true →
        Has k (range a b ∷ rs)
    cases true q rest e =
        let both = (and-eq-true_iff (leb a k) (leb k b)).0 q in
        record {
          first = a;
          last = b;
          there = among_here;
          low = leb-true a k both.0;
          high = leb-true k b both.1;
        }
    cases false q rest e = later (rest e)

pub has_code_holds : (k : ℕ) (rs : List Range) → Has k rs → has_code k rs ≡ true
has_code_holds k rs h = at rs h.there
  where
    at : (rs : List Range) → Among (range h.first h.last) rs → has_code k rs ≡ true
    at [] x' = elim x' [ ]
    at (r ∷ rs) among_here = rw (le-leb h.first k h.low, le-leb k h.last h.high)
    at (r ∷ rs) (among_later m) = rw (at rs m) (or-true (in_range k r))

pub lists_belong : (c k : ℕ) (ls : List ClassList) → in_lists c k ls ≡ true → Belongs c k ls
lists_belong c k [] e = absurd (true≢false (sym e))
lists_belong c k (list n rs ∷ ls) e = cases (eqb c n) refl (has_code k rs) refl (λ e. next (lists_belong c k ls e)) e
  where
    next : Belongs c k ls → Belongs c k (list n rs ∷ ls)
    next b = record { ranges = b.ranges; own = among_later b.own; has = b.has }

    cases : (s : Bool) → eqb c n ≡ s → (t : Bool) → has_code k rs ≡ t →
        (in_lists c k ls ≡ true → Belongs c k (list n rs ∷ ls)) → ((s && t) || in_lists c k ls) ≡ true →
        Belongs c k (list n rs ∷ ls)
    cases true p true q rest e = rw (eqb-true c n p) (record { ranges = rs; own = among_here; has = code_has k rs q })
    cases true p false q rest e = rest e
    cases false p t q rest e = rest e

pub belong_lists : (c k : ℕ) (ls : List ClassList) → Belongs c k ls → in_lists c k ls ≡ true
belong_lists c k ls b = at ls b.own
  where
    at : (ls : List ClassList) → Among (list c b.ranges) ls → in_lists c k ls ≡ true
    at [] x' = elim x' [ ]
    at (list n rs ∷ ls) among_here = rw (eq-eqb c c refl, has_code_holds k b.ranges b.has)
    at (list n rs ∷ ls) (among_later m) = rw (at ls m) (or-true (eqb c n && has_code k rs))
