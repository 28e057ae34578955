-- docs/RULES.md, "How a leaflet is read": an import, on a sheet. What a text's fault and its words are is crate
-- `leaflet`'s.
--
--   replace slot     "The words replace the slot's records through edit": the edit that they are
--   unless fault     "All such faults are answer 17, before edit's"
--   import           a text's words in place of a slot's records, or answer 17 and its place
--
-- Assumes nothing.
use Rattle.std.specs.Prelude.{ℕ, List, Option, None, Some}
use Rattle.rules.specs.Sheet.{count_of}
use Rattle.rules.specs.Refusals.{EditAnswer, edit_says, as_edit, Outcome, edit_slot, on_slot}
use Rattle.leaflet.specs.Reader.{fault_in, words_in}

-- the edit at place 0 that deletes all of slot s's records
unfoldable pub replace_slot : List ℕ → List ℕ → Outcome EditAnswer
replace_slot s inserted = edit_slot s 0 (count_of s) inserted

-- where a text has a fault, answer 17 and its place, and what there was: "at 17 .. nothing changes"; otherwise what is
-- done
abbrev pub unless_fault : {A B : Type 0} → (EditAnswer → B) → Option ℕ → A → B × A → B × A
unless_fault tell (Some p) ws o = (tell (edit_says 17 p 0), ws)
unless_fault tell None ws o = o

-- of slot k by a caller, with the size that the caller names: "otherwise an import is its edit"
unfoldable pub import : List ℕ → ℕ → ℕ → ℕ → List ℕ → Outcome EditAnswer
import ws caller k size text =
    unless_fault (λ a. a) (fault_in text) ws (on_slot as_edit ws caller k (λ s. replace_slot s (words_in size text)))
