-- Words stored one after the other are a paste, which is what `put` of words.rt tells: laws that docs/PORT.md and
-- docs/DECISIONS.md name. Assumes nothing.
use Rattle.std.proofs.Common.{◌≡◌, refl, ap, ◌∙◌, ℕ, suc, ◌+◌, ◌≤◌, add-suc, add-one, List, [], ◌∷◌, length, set}
use Rattle.std.proofs.Math.Seq.{sets, sets-eq, paste, take-length}

-- words stored at at + k, at + (k + 1) …
abbrev pub stored_from : List ℕ → ℕ → ℕ → List ℕ → List ℕ
stored_from d at k [] = d
stored_from d at k (w ∷ ws) = stored_from (set d (at + k) w) at (suc k) ws

-- words stored at at, at + 1 …, as `ws[at] = …; ws[at + 1] = …;` leaves them: on a list that is written out it computes
-- to the stores
abbrev pub stored : List ℕ → ℕ → List ℕ → List ℕ
stored d at [] = d
stored d at (w ∷ ws) = stored_from (set d at w) at 1 ws

stored_from_sets : (ws d : List ℕ) (at k : ℕ) → stored_from d at k ws ≡ sets d (at + k) ws
stored_from_sets [] d at k = refl
stored_from_sets (w ∷ ws) d at k =
    stored_from_sets ws (set d (at + k) w) at (suc k) ∙ ap (λ i. sets (set d (at + k) w) i ws) (add-suc at k)

stored_sets : (ws d : List ℕ) (at : ℕ) → stored d at ws ≡ sets d at ws
stored_sets [] d at = refl
stored_sets (w ∷ ws) d at =
    stored_from_sets ws (set d at w) at 1 ∙ ap (λ i. sets (set d at w) i ws) (add-one at)

-- the library's stores are a paste too
pub sets_paste : (ws d : List ℕ) (at : ℕ) → at + length ws ≤ length d → sets d at ws ≡ paste d at ws (length ws)
sets_paste ws d at h = rw (take-length ws) (sets-eq ws d at h)

pub stores : (ws d : List ℕ) (at : ℕ) → at + length ws ≤ length d → stored d at ws ≡ paste d at ws (length ws)
stores ws d at h = stored_sets ws d at ∙ sets_paste ws d at h
