-- The composition at the start of a line but the first: the lines before it stay, whatever records follow its first
-- run, and the lines from there on are those of the records from there on. Nothing here looks into a width or into a
-- unit: it all comes from `line_at`. Assumes nothing.
use Rattle.std.proofs.Common.{◌≡◌, refl, ap, sym, ◌∙◌, ℕ, zero, suc, ◌≤◌, ◌<◌, arith, false, List, [], ◌∷◌, ◌++◌}
use Rattle.std.proofs.Common.{length, take, drop, length-take-le}
use Rattle.std.proofs.Math.Seq.{take-length, drop-append_seam}
use Rattle.rules.specs.Basics.{Run, whole, joined}
use Rattle.rules.specs.Records.{Rec}
use Rattle.rules.specs.Groups.{TextUnit, units, counts}
use Rattle.rules.specs.Adjustment.{line_of, lines_of, compose}
use Rattle.rules.specs.Refusals.{splice}
use Rattle.rules.specs.Redone.{start}
use Rattle.rules.proofs.NoBreaking.{counts_append}
use Rattle.rules.proofs.Breaking.{breaking_choice}
use Rattle.rules.proofs.WordCounts.{length_lines_of, counts_units}
use Rattle.rules.proofs.LineStarts.{broken, LineAt, line_at, some_line}
use Rattle.rules.proofs.Splices.{splice_before}

lines_start : (m x : ℕ) (ls : List (Run TextUnit)) (j : ℕ) → start j (lines_of m x ls) ≡ counts (joined (take j ls))
unfolding start lines_of line_of joined counts
lines_start m x ls zero = refl
lines_start m x [] (suc j) = refl
lines_start m x (l ∷ ls) (suc j) = omega (arith, lines_start m 0 ls j, counts_append (whole l) (joined (take j ls)))

-- the lines of records hold them all
pub all_held : (m x : ℕ) (rs : List Rec) → start (length (compose m x (units rs))) (compose m x (units rs)) ≡ length rs
unfolding compose
all_held m x rs =
    rw (lines_start, length_lines_of, take-length, (breaking_choice m x (units rs)).joins_up, counts_units)

lines_drop : (m x : ℕ) (ls : List (Run TextUnit)) (n : ℕ) →
    drop (suc n) (lines_of m x ls) ≡ lines_of m 0 (drop (suc n) ls)
unfolding lines_of
lines_drop m x [] n = refl
lines_drop m x (l ∷ ls) zero = refl
lines_drop m x (l ∷ ls) (suc n) = lines_drop m 0 ls n

-- lines before another line are not final: they do not depend on it
lines_front : (m x : ℕ) (ls : List (Run TextUnit)) (k j : Run TextUnit) (ks js : List (Run TextUnit)) →
    take (length ls) (lines_of m x (ls ++ k ∷ ks)) ≡ take (length ls) (lines_of m x (ls ++ j ∷ js))
unfolding lines_of
lines_front m x [] k j ks js = refl
lines_front m x (l ∷ []) k j ks js = refl
lines_front m x (l ∷ i ∷ ls) k j ks js = ap (λ ls. line_of m x false l ∷ ls) (lines_front m 0 (i ∷ ls) k j ks js)

-- the lines from a line's start on
pub lines_from : (m x : ℕ) (rs : List Rec) (n : ℕ) → 1 ≤ n → n < length (compose m x (units rs)) →
    drop n (compose m x (units rs)) ≡ compose m 0 (units (drop (start n (compose m x (units rs))) rs))
unfolding compose
lines_from m x rs zero g h = absurd (omega arith)
lines_from m x rs (suc n) g h =
    let ls = broken m x rs in
    let a = line_at m x rs n (omega (arith, length_lines_of m x ls)) in
    let qs = joined (whole a.run) ++ a.others in
    let d : drop (start (suc n) (lines_of m x ls)) rs ≡ qs =
    ap (λ i. drop i rs) (lines_start m x ls (suc n) ∙ sym a.size) ∙ ap (λ ss. drop (length a.prior) ss) a.all
    ∙ drop-append_seam a.prior qs in
    lines_drop m x ls n ∙ ap (λ ls. lines_of m 0 ls) (a.after ∙ ap (λ ss. broken m 0 ss) (sym d))

-- the lines before a line stay, whatever records follow its first run
same_before : (m x : ℕ) (rs : List Rec) (n : ℕ) (a : LineAt m x rs n) → n ≤ length (broken m x rs) → (es : List Rec) →
    take n (lines_of m x (broken m x (a.prior ++ (joined (whole a.run) ++ es))))
    ≡ take n (lines_of m x (broken m x rs))
unfolding joined
same_before m x rs n a h es =
    let r = a.run.first.first in
    let qs = a.run.first.rest ++ joined a.run.rest in
    let ls = take n (broken m x rs) in
    let k = some_line m 0 r (qs ++ es) in
    let j = some_line m 0 r (qs ++ a.others) in
    let c : length ls ≡ n = length-take-le n (broken m x rs) h in
    let f : take n (lines_of m x (ls ++ k.0 ∷ k.1)) ≡ take n (lines_of m x (ls ++ j.0 ∷ j.1)) =
    rw c at (lines_front m x ls k.0 j.0 k.1 j.1) in
    let old : broken m x rs ≡ ls ++ j.0 ∷ j.1 =
    ap (λ ss. broken m x ss) a.all ∙ a.before a.others ∙ ap (λ ks. ls ++ ks) j.2 in
    rw (a.before es, k.2) f ∙ ap (λ ks. take n (lines_of m x ks)) (sym old)

-- so they stay where an edit's place is no earlier than the line's end
pub lines_kept : (m x : ℕ) (rs : List Rec) (place deleted : ℕ) (new : List Rec) (n : ℕ) →
    suc n < length (compose m x (units rs)) → start (suc (suc n)) (compose m x (units rs)) ≤ place →
    take (suc n) (compose m x (units (splice rs place deleted new))) ≡ take (suc n) (compose m x (units rs))
unfolding compose
lines_kept m x rs place deleted new n h g =
    let c = length_lines_of m x (broken m x rs) in
    let d = lines_start m x (broken m x rs) (suc (suc n)) in
    let a = line_at m x rs n (omega arith) in
    let bs = joined (whole a.run) in
    let s = splice_before a.prior bs a.others place deleted new (omega (arith, a.holds)) in
    ap (λ ss. take (suc n) (lines_of m x (broken m x ss))) (ap (λ ss. splice ss place deleted new) a.all ∙ s.1)
    ∙ same_before m x rs (suc n) a (omega arith) s.0
