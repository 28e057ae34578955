-- docs/RULES.md, "Which slots are in use": slots taken and given back, as cases worked by hand: takes on sheets told by
-- their slots' clinics and in-use words, and calls on the slot of a sheet of one. Each is one table, with one claim
-- over all rows that the checker computes. Assumes nothing.
use Rattle.std.proofs.Common.{◌≡◌, refl, ℕ, ◌*◌, ◌-◌, List, [], ◌∷◌, map, length, get_or}
use Rattle.rules.specs.Basics.{zeros}
use Rattle.rules.specs.Layout.{slot_length}
use Rattle.rules.specs.Sheet.{Setting, setting, with_use}
use Rattle.rules.specs.Refusals.{Answer, says, entry_rows, entry_answer}
use Rattle.rules.specs.Pool.{own_among, lowest_free, take_rows, take_answer}

-- a slot's clinic and in-use word
abbrev pub Head : Type 0
Head = ℕ × ℕ

-- Takes -------------------------------------------------------------------------------------------------------------

pub record TakeCase : Type 0 where
  pub slots : List Head
  pub caller : ℕ
  pub want : Answer

abbrev take : List Head → ℕ → Answer → TakeCase
take ss c a = record { slots = ss; caller = c; want = a }

settings : List Head → ℕ → Setting
settings ss k = let s = get_or ss k (0, 0) in with_use (setting s.0 800 0) s.1

pub answered : TakeCase → Answer
answered t =
    let n = length t.slots in
    take_answer (slot_length * n) t.caller (own_among (settings t.slots) t.caller 0 n)

abbrev pub wanted_answer : TakeCase → Answer
wanted_answer t = t.want

-- clinic 7 takes, where nothing else is said
pub takes : List TakeCase
takes =
    -- the only slot; the lowest of three; the lowest that is free; the last
    take ((7, 0) ∷ []) 7 (says 0 0)
    ∷ take ((7, 0) ∷ (7, 0) ∷ (7, 0) ∷ []) 7 (says 0 0)
    ∷ take ((7, 1) ∷ (7, 0) ∷ (7, 0) ∷ []) 7 (says 0 1)
    ∷ take ((7, 1) ∷ (7, 1) ∷ (7, 0) ∷ []) 7 (says 0 2)
    -- its own among another's; the other's likewise; an unassigned one is nobody's
    ∷ take ((9, 0) ∷ (7, 1) ∷ (9, 0) ∷ (7, 0) ∷ []) 7 (says 0 3)
    ∷ take ((9, 0) ∷ (7, 1) ∷ (9, 0) ∷ (7, 0) ∷ []) 9 (says 0 0)
    ∷ take ((0, 0) ∷ (7, 0) ∷ []) 7 (says 0 1)
    -- none is left, while another clinic has some; it has no slot at all
    ∷ take ((7, 1) ∷ (9, 0) ∷ (7, 1) ∷ (9, 0) ∷ []) 7 (says 13 0)
    ∷ take ((7, 0) ∷ (9, 0) ∷ []) 11 (says 13 0)
    -- a damaged word is not free
    ∷ take ((7, 2) ∷ (7, 0) ∷ []) 7 (says 0 1)
    ∷ take ((7, 2) ∷ (7, 4294967295) ∷ []) 7 (says 13 0)
    -- caller 0, also of an unassigned slot
    ∷ take ((7, 0) ∷ []) 0 (says 3 0)
    ∷ take ((0, 0) ∷ (7, 1) ∷ []) 0 (says 3 0)
    -- no sheet
    ∷ take [] 7 (says 1 0)
    ∷ take [] 0 (says 1 0)
    ∷ []

pub takes_hold : map answered takes ≡ map wanted_answer takes
unfolding take_answer take_rows own_among lowest_free answered settings takes
takes_hold = refl

-- Calls on a slot ---------------------------------------------------------------------------------------------------

pub record CallCase : Type 0 where
  pub head : Head
  pub caller : ℕ
  pub slot : ℕ
  pub want : ℕ

abbrev call : ℕ → ℕ → ℕ → ℕ → ℕ → CallCase
call clinic word c k n = record { head = (clinic, word); caller = c; slot = k; want = n }

-- the number of the rows 1 to 3 and 14 on a sheet of one slot, which is fresh but for its in-use word
pub numbered : CallCase → ℕ
numbered t =
    let ws = t.head.0 ∷ 800 ∷ 0 ∷ 0 ∷ 0 ∷ t.head.1 ∷ zeros (slot_length - 6) in
    (entry_answer ws t.caller t.slot).number

abbrev pub due : CallCase → ℕ
due t = t.want

pub calls : List CallCase
calls =
    -- clinic 7's slot: in use, not in use, damaged, for which a later row answers 4
    call 7 1 7 0 0
    ∷ call 7 0 7 0 14
    ∷ call 7 2 7 0 0
    -- another clinic, which does not learn whether it is in use
    ∷ call 7 1 9 0 3
    ∷ call 7 0 9 0 3
    ∷ call 7 2 9 0 3
    -- caller 0, of clinic 7's slot and of an unassigned one
    ∷ call 7 0 0 0 3
    ∷ call 0 0 0 0 3
    -- no such slot
    ∷ call 7 0 7 1 2
    ∷ []

pub calls_hold : map numbered calls ≡ map due calls
unfolding entry_answer entry_rows zeros numbered calls
calls_hold = refl
