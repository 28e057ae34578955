-- Class numbers and their rows: the table below 28, the numbers past it, and that a class is a number with a row.
-- Assumes nothing.
use Rattle.std.proofs.Common.{◌≡◌, refl, sym, ap, ◌∙◌, ℕ, suc, ◌≤◌, ◌<◌, arith, Bool, true, false, inl, inr, List, []}
use Rattle.std.proofs.Common.{◌∷◌, map, ltb, eqb, length, get_or, ne_eqb, ltb-true, lt-ltb, le-ltb}
use Rattle.std.proofs.Math.Bool.{and-eq-true_iff}
use Rattle.std.proofs.Math.Dec.{leb-suc-suc}
use Rattle.std.proofs.Math.ListN.{get_or-map}
use Rattle.rules.specs.Basics.{is_in, tabled}
use Rattle.rules.specs.Records.{classes, class_ok, index_in, class_index, advance_kind}
use Rattle.rules.specs.Tables.{row_of, seen, IsEntryOf}
use Rattle.rules.specs.declared.classes.ClassEntry.{ClassEntry}
use Rattle.rules.specs.declared.classes.TheConstants.{CLASSES}
use Rattle.std.proofs.lemmas.Bool.{cases_Bool}
use Rattle.rules.proofs.ComputedTables.{tabled_at, all_of, all_at}

-- that the program's table is the rules' is computed over all its rows
pub table_ruled : map seen CLASSES ≡ tabled row_of 0 28
unfolding class_ok classes class_index advance_kind
table_ruled = refl

-- and read off at each
pub row_at : (c : ℕ) → c < 28 → (d : ClassEntry) → seen (get_or CLASSES c d) ≡ row_of c
row_at c h d =
    sym (get_or-map seen CLASSES c d) ∙ ap (λ t. get_or t c (seen d)) table_ruled ∙ tabled_at row_of (seen d) 28 c h

-- each number of a list is below b
abbrev below : ℕ → List ℕ → Bool
below b ks = all_of (λ k. ltb k b) ks

-- a number from b on is not in such a list, and has no place there
below_past : (b c : ℕ) → b ≤ c → (ks : List ℕ) → below b ks ≡ true →
    (is_in c ks ≡ false) × (index_in c ks ≡ length ks)
below_past b c h [] e = (refl, refl)
below_past b c h (k ∷ ks) e =
    let both = (and-eq-true_iff (ltb k b) (below b ks)).0 e in
    let rest = below_past b c h ks both.1 in
    let other : eqb c k ≡ false = ne_eqb c k (λ q. omega (arith, ltb-true k b both.0)) in
    (rw (other, rest.0), rw (other, rest.1))

-- past the table there is no class
pub no_class_past : (c : ℕ) → 28 ≤ c → class_ok c ≡ false
unfolding class_ok classes
no_class_past c h = (below_past 28 c h classes refl).0

-- a number is in a list where its place there is below the list's length
index_below : (c : ℕ) (ks : List ℕ) → is_in c ks ≡ ltb (index_in c ks) (length ks)
index_below c [] = refl
index_below c (k ∷ ks) =
    elim (cases_Bool (eqb c k)) [
      | inl e ↦ rw (e, lt-ltb 0 (suc (length ks)) (omega arith))
      | inr e ↦ rw (e, leb-suc-suc) (index_below c ks)
    ]

pub class_ok_row : (c : ℕ) → class_ok c ≡ ltb (class_index c) 18
unfolding class_ok classes class_index
class_ok_row c = index_below c classes

-- a class is in the table
pub class_small : (c : ℕ) → class_ok c ≡ true → c < 28
unfolding class_ok classes
class_small c e = ltb-true c 28 (all_at (λ k. ltb k 28) classes refl c e)

pub row_small : (c : ℕ) → class_ok c ≡ true → class_index c < 18
row_small c e = ltb-true (class_index c) 18 (sym (class_ok_row c) ∙ e)

-- what a row says of a number: its class, or that it is none
pub class_seen : (c : ℕ) (e : ClassEntry) → seen e ≡ row_of c → e.index < 18 → IsEntryOf c e
class_seen c e r h =
    let index : e.index ≡ class_index c = ap (λ row. row.0) r in
    record {
      class = class_ok_row c ∙ lt-ltb (class_index c) 18 (rw index at h);
      index = index;
      kind = ap (λ row. row.1) r;
    }

pub known_seen : (c : ℕ) (e : ClassEntry) → seen e ≡ row_of c → class_ok c ≡ true → IsEntryOf c e
known_seen c e r h = record { class = h; index = ap (λ row. row.0) r; kind = ap (λ row. row.1) r }

pub none_seen : (c : ℕ) (e : ClassEntry) → seen e ≡ row_of c → 18 ≤ e.index → class_ok c ≡ false
none_seen c e r h =
    let index : e.index ≡ class_index c = ap (λ row. row.0) r in
    class_ok_row c ∙ le-ltb (class_index c) 18 (rw index at h)

pub ruleset row_laws = (class_small, no_class_past, class_seen, known_seen, none_seen)
