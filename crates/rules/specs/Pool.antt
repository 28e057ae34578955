-- "Which slots are in use": slots taken and given back. A clinic's own slots are a pool, from which it takes one at a
-- time and to which it gives them back; nothing of another clinic's slots is asked.
--
--   own slots    of a clinic on a sheet: their numbers and in-use words, in order
--   free         a slot whose in-use word is 0; a word above 1 is not 0
--   taking       of the lowest-numbered own slot that is free: its number, or 13
--   giving back  of one slot: all but clinic, measure and indent is zeroed
--
-- Assumes nothing.
use Rattle.std.specs.Prelude.{ℕ, zero, suc, ◌+◌, ◌*◌, ◌-◌, Bool, cond, not, List, [], ◌∷◌, eqb, length, set}
use Rattle.std.specs.Prelude.{Option, None, Some}
use Rattle.rules.specs.Basics.{first_of, zeros}
use Rattle.rules.specs.Layout.{slot_length, in_use_at}
use Rattle.rules.specs.Sheet.{Setting, clinic_of, measure_of, indent_of, setting_of, slot_count, length_ok, slot_at}
use Rattle.rules.specs.Refusals.{Answer, says, Outcome, sound, on_slot}

-- a slot's number and its in-use word
abbrev pub OwnSlot : Type 0
OwnSlot = ℕ × ℕ

-- those of a clinic among n slots from slot k on, which have these settings
unfoldable pub own_among : (ℕ → Setting) → ℕ → ℕ → ℕ → List OwnSlot
own_among settings clinic k zero = []
own_among settings clinic k (suc n) =
    let more = own_among settings clinic (suc k) n in
    cond (eqb clinic (settings k).clinic) ((k, (settings k).in_use) ∷ more) more

-- "the caller's own slots"
unfoldable pub own_slots : List ℕ → ℕ → List OwnSlot
own_slots ws caller = own_among (λ k. setting_of (slot_at ws k)) caller 0 (slot_count ws)

-- "its lowest-numbered slot whose word is 0"
unfoldable pub lowest_free : List OwnSlot → Option ℕ
lowest_free [] = None
lowest_free (o ∷ own) = cond (eqb o.1 0) (Some o.0) (lowest_free own)

-- "refused .. with 13 exactly when the clinic has none"; "and is given its number"
abbrev pub granted : Option ℕ → Answer
granted None = says 13 0
granted (Some k) = says 0 k

-- the rows 1 and 3 of a take, on a sheet of n words
unfoldable pub take_rows : ℕ → ℕ → List (Bool × Answer)
take_rows n caller = (not (length_ok n), says 1 0) ∷ (eqb caller 0, says 3 0) ∷ []

-- "taking depends only on the caller, P and the caller's own slots": P is what the sheet's length tells
unfoldable pub take_answer : ℕ → ℕ → List OwnSlot → Answer
take_answer n caller own = first_of (take_rows n caller) (granted (lowest_free own))

-- the place of slot k's in-use word in the sheet
abbrev pub use_at : ℕ → ℕ
use_at k = slot_length * k + in_use_at

-- "which becomes 1": no other word changes
unfoldable pub taking : List ℕ → ℕ → Outcome Answer
taking ws caller =
    let a = take_answer (length ws) caller (own_slots ws caller) in
    (a, cond (eqb a.number 0) (set ws (use_at a.place) 1) ws)

-- "zeroes all but clinic, measure and indent"
abbrev pub emptied : List ℕ → List ℕ
emptied s = clinic_of s ∷ measure_of s ∷ indent_of s ∷ zeros (slot_length - 3)

-- the row 4 of a giving back of slot s: "refused as edit is, up to 4"
unfoldable pub give_back_rows : List ℕ → List (Bool × Answer)
give_back_rows s = (not (sound s), says 4 0) ∷ []

-- giving back slot s by its own clinic
unfoldable pub give_back_slot : List ℕ → Outcome Answer
give_back_slot s =
    let a = first_of (give_back_rows s) (says 0 0) in
    (a, cond (eqb a.number 0) (emptied s) s)

unfoldable pub giving_back : List ℕ → ℕ → ℕ → Outcome Answer
giving_back ws caller k = on_slot (λ a. a) ws caller k give_back_slot
