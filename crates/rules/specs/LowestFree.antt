-- "Its lowest-numbered slot whose word is 0", said of slots by number and of no search.
--
--   free at      slot k is a clinic's, and its in-use word is 0
--   found        of n slots from slot k on: the one that is free, where none before it is; or that none is
--
-- Assumes nothing.
use Rattle.std.specs.Prelude.{◌≡◌, ℕ, ◌+◌, ◌≤◌, ◌<◌, Option, None, Some}
use Rattle.rules.specs.Sheet.{Setting}

abbrev pub FreeAt : (ℕ → Setting) → ℕ → ℕ → Type 0
FreeAt settings clinic k = (clinic ≡ (settings k).clinic) × ((settings k).in_use ≡ 0)

pub data Found (settings : ℕ → Setting) (clinic k n : ℕ) : Option ℕ → Type 0 where
  found : (j : ℕ) → k ≤ j → j < k + n → FreeAt settings clinic j →
      ((i : ℕ) → k ≤ i → i < j → FreeAt settings clinic i → ⊥) → Found settings clinic k n (Some j)
  not_found : ((i : ℕ) → k ≤ i → i < k + n → FreeAt settings clinic i → ⊥) → Found settings clinic k n None
