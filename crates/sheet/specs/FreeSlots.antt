-- docs/RULES.md, "Which slots are in use": what a take, a giving back and answer 14 mean, said of the sheet's words and
-- of no search for a slot.
--
--   free         slot k of a sheet is the caller's, and its in-use word is 0
--   lowest free  and no slot before it is both
--   takeable     no answer before 13 is due on a take
--   only taken   two sheets that differ in one slot's in-use word alone, which was 0 and is 1
--   reached      a call on a slot to which none of 1, 2 and 3 applies
--   up to 4      an edit's number, where it is one of those that a giving back is refused with too
--
-- Assumes nothing.
use Rattle.std.specs.Prelude.{◌≡◌, ℕ, ◌<◌, true, cond, List, [], ◌∷◌, length, get_or}
use Rattle.rules.specs.Basics.{is_in}
use Rattle.rules.specs.Sheet.{clinic_of, in_use_of, slot_count, length_ok, slot_at}
use Rattle.rules.specs.Pool.{use_at}

pub record Free (ws : List ℕ) (caller k : ℕ) : Type 0 where
  pub within : k < slot_count ws
  pub own : caller ≡ clinic_of (slot_at ws k)
  pub free : in_use_of (slot_at ws k) ≡ 0

pub record LowestFree (ws : List ℕ) (caller k : ℕ) : Type 0 where
  pub free : Free ws caller k
  pub lowest : (j : ℕ) → j < k → Free ws caller j → ⊥

pub record Takeable (ws : List ℕ) (caller : ℕ) : Type 0 where
  pub whole : length_ok (length ws) ≡ true
  pub known : caller ≡ 0 → ⊥

pub record OnlyTaken (ws vs : List ℕ) (k : ℕ) : Type 0 where
  pub same_length : length vs ≡ length ws
  pub was : get_or ws (use_at k) 0 ≡ 0
  pub is : get_or vs (use_at k) 0 ≡ 1
  pub others : (i : ℕ) → (i ≡ use_at k → ⊥) → get_or vs i 0 ≡ get_or ws i 0

pub record Reached (ws : List ℕ) (caller k : ℕ) : Type 0 where
  pub whole : length_ok (length ws) ≡ true
  pub within : k < slot_count ws
  pub known : caller ≡ 0 → ⊥
  pub own : caller ≡ clinic_of (slot_at ws k)

-- "giving back is refused as edit is, up to 4"
abbrev pub up_to_4 : ℕ → ℕ
up_to_4 n = cond (is_in n (1 ∷ 2 ∷ 3 ∷ 14 ∷ 4 ∷ [])) n 0
