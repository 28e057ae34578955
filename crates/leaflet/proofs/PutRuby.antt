-- The ruby counts of a group's records, put where its rt ends. Assumes nothing.
use Rattle.std.proofs.Common.{◌≡◌, refl, sym, ap, ◌∙◌, ℕ, zero, suc, ◌+◌, ◌-◌, ◌*◌, ◌≤◌, ◌<◌, arith, List, [], ◌∷◌}
use Rattle.std.proofs.Common.{◌++◌, map, append_assoc, length, take, set, length-append, length-set}
use Rattle.std.proofs.Math.Seq.{take-set-lt, set_at}
use Rattle.rules.specs.Layout.{record_length}
use Rattle.rules.specs.Records.{record_words}
use Rattle.lists.specs.Lists.{class_of}
use Rattle.leaflet.specs.Imported.{advance_of, record_of}
use Rattle.leaflet.specs.Written.{rubied, ruby_at}

pub length_rubied : (m g n : ℕ) (ws : List ℕ) → length (rubied m g n ws) ≡ length ws
unfolding rubied
length_rubied zero g n ws = refl
length_rubied (suc m) g n ws =
    length_rubied m (g + record_length) n (set ws (g + ruby_at) n) ∙ length-set ws (g + ruby_at) n

-- the records of a base, put without a ruby count, get it
pub base_rubied : (s k n : ℕ) (cs p ws : List ℕ) (g i : ℕ) → length p ≡ g → i ≡ g + record_length * length cs →
    take i ws ≡ p ++ record_words (map (record_of s k 0) cs) →
    take i (rubied (length cs) g n ws) ≡ p ++ record_words (map (record_of s k n) cs)
unfolding rubied record_words
base_rubied s k n [] p ws g i l r e = e
base_rubied s k n (c ∷ cs) p ws g i l r e =
    let five = c ∷ class_of c ∷ s ∷ advance_of (class_of c) s ∷ k ∷ [] in
    let first = five ++ (n ∷ []) in
    let rest = record_words (map (record_of s k 0) cs) in
    let five_long : length (p ++ five) ≡ g + ruby_at = length-append p five ∙ ap (λ j. j + ruby_at) l in
    let here : take i (set ws (g + ruby_at) n) ≡ (p ++ first) ++ rest
    = take-set-lt i ws (g + ruby_at) n (omega (arith, r))
    ∙ ap (λ v. set v (g + ruby_at) n) (e ∙ sym (append_assoc p five (0 ∷ rest)))
    ∙ set_at (p ++ five) 0 rest n (g + ruby_at) five_long
    ∙ append_assoc p five (n ∷ rest) ∙ sym (append_assoc p first rest) in
    base_rubied s k n cs (p ++ first) (set ws (g + ruby_at) n) (g + record_length) i
    (length-append p first ∙ ap (λ j. j + record_length) l) (omega (arith, r)) here
    ∙ append_assoc p first (record_words (map (record_of s k n) cs))

-- a turn of the loop that puts them, at the k-th of m records, and its end
pub rubying_more : (m k g n : ℕ) (ws : List ℕ) {all : List ℕ} → k < m →
    rubied (m - k) (g + record_length * k) n ws ≡ all →
    rubied (m - (k + 1)) (g + record_length * (k + 1)) n (set ws (g + record_length * k + ruby_at) n) ≡ all
unfolding rubied
rubying_more m k g n ws h e =
    let more : m - k ≡ suc (m - (k + 1)) = omega arith in
    let on : g + record_length * k + record_length ≡ g + record_length * (k + 1) = omega arith in
    ap (λ j. rubied (m - (k + 1)) j n (set ws (g + record_length * k + ruby_at) n)) (sym on) ∙ (rw more at e)

pub rubying_end : (m k g n : ℕ) (ws : List ℕ) {all : List ℕ} → m ≤ k →
    rubied (m - k) (g + record_length * k) n ws ≡ all → ws ≡ all
unfolding rubied
rubying_end m k g n ws h e = let none : m - k ≡ 0 = omega arith in rw none at e
