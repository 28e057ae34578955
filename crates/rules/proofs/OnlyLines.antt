-- The lines are determined: only one choice of permitted breaks has lines that all fit and are each the longest.
-- Assumes nothing.
use Rattle.std.proofs.Common.{◌≡◌, refl, sym, ℕ, ◌+◌, ◌≤◌, ◌<◌, arith, List, [], ◌∷◌, ◌++◌}
use Rattle.rules.specs.Basics.{Run, whole, extended, joined}
use Rattle.rules.specs.Groups.{TextUnit}
use Rattle.rules.specs.Breaks.{forbidden_between, width}
use Rattle.rules.specs.Meanings.{last_in, Apart, apart_more, Fits, fits_more, EndsWell, at_end, at_break, Longest}
use Rattle.rules.specs.Meanings.{longest_more}
use Rattle.rules.proofs.Decisions.{nil_cons, cons_path}
use Rattle.rules.proofs.LongestLines.{ends_alike}
use Rattle.rules.proofs.Cuts.{last_append, apart_tail}

-- two ways of parting one list, into ps and qs and into ss and rs: at the same place, or one later than the other
data Parted {A : Type 0} (ps qs ss rs : List A) : Type 0 where
  same : ps ≡ ss → qs ≡ rs → Parted ps qs ss rs
  later : (t : Run A) → ps ≡ ss ++ whole t → rs ≡ whole t ++ qs → Parted ps qs ss rs
  sooner : (t : Run A) → ss ≡ ps ++ whole t → qs ≡ whole t ++ rs → Parted ps qs ss rs

parted_more : {A : Type 0} {a b : A} {ps qs ss rs : List A} → a ≡ b → Parted ps qs ss rs →
    Parted (a ∷ ps) qs (b ∷ ss) rs
parted_more d (same e f) = same (cons_path d e) f
parted_more d (later t e f) = later t (cons_path d e) f
parted_more d (sooner t e f) = sooner t (cons_path (sym d) e) f

parted : {A : Type 0} (ps qs ss rs : List A) → ps ++ qs ≡ ss ++ rs → Parted ps qs ss rs
parted [] qs [] rs e = same refl e
parted [] qs (s ∷ ss) rs e = sooner (record { first = s; rest = ss }) refl e
parted (p ∷ ps) qs [] rs e = later (record { first = p; rest = ps }) refl (sym e)
parted (p ∷ ps) qs (s ∷ ss) rs e =
    let f : p ≡ s = cc in
    let g : ps ++ qs ≡ ss ++ rs = cc in
    parted_more f (parted ps qs ss rs g)

-- a line of a choice ends where a line may end, and so does a part of it that it ends with
ends_well : (l : Run TextUnit) (ls : List (Run TextUnit)) → Apart forbidden_between (l ∷ ls) → EndsWell l (joined ls)
unfolding joined
ends_well l [] h = at_end
ends_well l (k ∷ ls) (apart_more e h) = at_break {v = k.first} e

-- no line that fits goes on past one that is the longest
past_longest : (m x : ℕ) (l k t : Run TextUnit) (ls ks : List (Run TextUnit)) → Longest m x (k ∷ ks) →
    Fits m x (l ∷ ls) → Apart forbidden_between (l ∷ ls) →
    whole l ≡ whole k ++ whole t → joined ks ≡ whole t ++ joined ls → ⊥
past_longest m x l k t ls ks (longest_more h g) (fits_more f d) a e q =
    let p : l.first ≡ k.first = cc in
    let r : l.rest ≡ k.rest ++ whole t = cc in
    let z : last_in l ≡ last_in t = rw (p, r) (last_append k.first k.rest t.first t.rest) in
    let w : m < x + width (extended k t) = h t (joined ls) (sym q) (ends_alike z (ends_well l ls a)) in
    let n : x + width (extended k t) ≤ m = rw (← p, ← r) f in
    omega arith

pub fits_tail : {m x : ℕ} {l : Run TextUnit} {ls : List (Run TextUnit)} → Fits m x (l ∷ ls) → Fits m 0 ls
fits_tail (fits_more h f) = f

longest_tail : {m x : ℕ} {l : Run TextUnit} {ls : List (Run TextUnit)} → Longest m x (l ∷ ls) → Longest m 0 ls
longest_tail (longest_more h g) = g

pub only_lines : (m x : ℕ) (ls ks : List (Run TextUnit)) → joined ls ≡ joined ks → Apart forbidden_between ls →
    Apart forbidden_between ks →
    Fits m x ls →
    Fits m x ks → Longest m x ls → Longest m x ks → ls ≡ ks
unfolding joined
only_lines m x [] [] e a b f g h j = refl
only_lines m x [] (k ∷ ks) e a b f g h j = absurd (nil_cons e)
only_lines m x (l ∷ ls) [] e a b f g h j = absurd (nil_cons (sym e))
only_lines m x (l ∷ ls) (k ∷ ks) e a b f g h j =
    from (parted (whole l) (joined ls) (whole k) (joined ks) e)
    (λ q.
    only_lines m 0 ls ks q (apart_tail forbidden_between a) (apart_tail forbidden_between b) (fits_tail f) (fits_tail g)
    (longest_tail h) (longest_tail j))
  where
    from : Parted (whole l) (joined ls) (whole k) (joined ks) → (joined ls ≡ joined ks → ls ≡ ks) → l ∷ ls ≡ k ∷ ks
    from (same p q) r =
        let d : l.first ≡ k.first = cc in
        let c : l.rest ≡ k.rest = cc in
        λ i. record { first = d i; rest = c i } ∷ r q i
    from (later t p q) r = absurd (past_longest m x l k t ls ks j f a p q)
    from (sooner t p q) r = absurd (past_longest m x k l t ks ls h g b p q)
