-- The records of an edit, before its place and after the inserted stretch. Assumes nothing.
use Rattle.std.proofs.Common.{◌≡◌, ap, ◌∙◌, ℕ, ◌+◌, ◌-◌, ◌≤◌, arith, List, ◌++◌, append_assoc, length, take, drop}
use Rattle.std.proofs.Common.{length-take-le, drop-drop}
use Rattle.std.proofs.Math.Seq.{take-append-add, drop-append-add}
use Rattle.rules.specs.Records.{Rec}
use Rattle.rules.specs.Refusals.{splice}

-- new record i from the end of the inserted stretch on is old record i − inserted + deleted
pub splice_after : (rs : List Rec) (place deleted : ℕ) (new : List Rec) (i : ℕ) → place + deleted ≤ length rs →
    place + length new ≤ i → drop i (splice rs place deleted new) ≡ drop (i - length new + deleted) rs
unfolding splice
splice_after rs place deleted new i h g =
    let ps = take place rs in
    let qs = drop (place + deleted) rs in
    let w = i - (place + length new) in
    let p : i ≡ length ps + (length new + w) = omega (arith, length-take-le place rs (omega arith)) in
    let q : place + deleted + w ≡ i - length new + deleted = omega arith in
    ap (λ j. drop j (ps ++ (new ++ qs))) p ∙ rw (drop-append-add, drop-append-add, drop-drop, q)

-- records before the place stay
pub splice_before : (ps bs qs : List Rec) (place deleted : ℕ) (new : List Rec) → length ps + length bs ≤ place →
    (es : List Rec) × (splice (ps ++ (bs ++ qs)) place deleted new ≡ ps ++ (bs ++ es))
unfolding splice
splice_before ps bs qs place deleted new h =
    let w = place - (length ps + length bs) in
    let p : place ≡ length ps + (length bs + w) = omega arith in
    let es = new ++ drop (place + deleted) (ps ++ (bs ++ qs)) in
    let t : take place (ps ++ (bs ++ qs)) ≡ ps ++ (bs ++ take w qs) =
    ap (λ j. take j (ps ++ (bs ++ qs))) p ∙ rw (take-append-add, take-append-add) in
    (take w qs ++ es, ap (λ ss. ss ++ es) t ∙ rw (append_assoc, append_assoc))
