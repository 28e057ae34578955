-- The numbers and places that callers are told, for each case of the program's enums and of its `Option`s and
-- `Result`s. They stand here and in no other definition of the program's own values. Of a name that the two share, the
-- program's ends in `Value`.
--
--   number of, place of      a refusal's
--   answer from              an outcome, as the tables of refusals have it: 0 and what the call gives, or a refusal
--   line kind                1 flush, 2 short, 3 final
--
-- Assumes nothing.
use Rattle.std.specs.Prelude.{◌≡◌, ◌≢◌, ℕ, Option, Some, None, Result, Ok, Err, MatchResult, cond, eqb}
use Rattle.rules.specs.Refusals.{Answer, says, EditAnswer, edit_says}
use Rattle.rules.specs.declared.refusal.Refusal.{Refusal}
use Rattle.rules.specs.declared.refusal.Refusal.TheVariants.{NoSheet, NoSlot, NotTheCallers, Damaged, PastTheEnd}
use Rattle.rules.specs.declared.refusal.Refusal.TheVariants.{NotWhole, TooMany, IllRecord, IllGroup, TooWide}
use Rattle.rules.specs.declared.refusal.Refusal.TheVariants.{OutOfLimits, NotListed, NoneFree, NotInUse}
use Rattle.rules.specs.declared.answer.Answer.{Answer as AnswerValue}
use Rattle.rules.specs.declared.answer.Edited.{Edited}
use Rattle.rules.specs.declared.groups.RubyPlace.{RubyPlace}
use Rattle.rules.specs.declared.line_kind.LineKind.{LineKind}
use Rattle.rules.specs.declared.line_kind.LineKind.TheVariants.{Flush, Short, Final}
use Rattle.rules.specs.declared.line_kind.NoLineKind.{NoLineKind}

abbrev pub number_of : Refusal → ℕ
number_of NoSheet = 1
number_of NoSlot = 2
number_of NotTheCallers = 3
number_of Damaged = 4
number_of (PastTheEnd count) = 5
number_of NotWhole = 6
number_of TooMany = 7
number_of (IllRecord at) = 8
number_of (IllGroup at) = 9
number_of (TooWide at) = 10
number_of (OutOfLimits slot) = 11
number_of (NotListed at) = 12
number_of NoneFree = 13
number_of NotInUse = 14

abbrev pub place_of : Refusal → ℕ
place_of NoSheet = 0
place_of NoSlot = 0
place_of NotTheCallers = 0
place_of Damaged = 0
place_of (PastTheEnd count) = count
place_of NotWhole = 0
place_of TooMany = 0
place_of (IllRecord at) = at
place_of (IllGroup at) = at
place_of (TooWide at) = at
place_of (OutOfLimits slot) = slot
place_of (NotListed at) = at
place_of NoneFree = 0
place_of NotInUse = 0

-- the refusal of a number and a place: no two have both in common
abbrev pub refusal_of : ℕ → ℕ → Option Refusal
refusal_of n p =
    cond (eqb n 1) (Some NoSheet)
    (cond (eqb n 2) (Some NoSlot)
    (cond (eqb n 3) (Some NotTheCallers)
    (cond (eqb n 4) (Some Damaged)
    (cond (eqb n 5) (Some (PastTheEnd p))
    (cond (eqb n 6) (Some NotWhole)
    (cond (eqb n 7) (Some TooMany)
    (cond (eqb n 8) (Some (IllRecord p))
    (cond (eqb n 9) (Some (IllGroup p))
    (cond (eqb n 10) (Some (TooWide p))
    (cond (eqb n 11) (Some (OutOfLimits p))
    (cond (eqb n 12) (Some (NotListed p))
    (cond (eqb n 13) (Some NoneFree)
    (cond (eqb n 14) (Some NotInUse)
    None)))))))))))))

abbrev pub refused_with : Refusal → Answer
refused_with e = says (number_of e) (place_of e)

abbrev pub answer_from : Result ℕ Refusal → Answer
answer_from (Ok n) = says 0 n
answer_from (Err e) = refused_with e

abbrev pub edit_answer_from : Result Edited Refusal → EditAnswer
edit_answer_from (Ok e) = edit_says 0 e.lines e.redone
edit_answer_from (Err e) = edit_says (number_of e) (place_of e) 0

-- the program's answer, as the tables have it
abbrev pub answer_as : AnswerValue → Answer
answer_as a = says a.number a.place

abbrev pub IsAnswerOf : Result ℕ Refusal → AnswerValue → Type 0
IsAnswerOf r a = answer_as a ≡ answer_from r

-- ruby place's number and offset
abbrev pub ruby_answer_from : Option ℕ → ℕ × ℕ
ruby_answer_from (Some offset) = (0, offset)
ruby_answer_from None = (8, 0)

abbrev pub IsRubyPlaceOf : Option ℕ → RubyPlace → Type 0
IsRubyPlaceOf offset answer = (answer.number, answer.offset) ≡ ruby_answer_from offset

abbrev pub line_kind : LineKind → ℕ
line_kind Flush = 1
line_kind Short = 2
line_kind Final = 3

-- the kind that a word is, or the word back where it is none
abbrev pub IsLineKind : ℕ → Result LineKind NoLineKind → Type 0
IsLineKind n r = MatchResult r (λ kind. line_kind kind ≡ n) (λ e. (e.0 ≡ n) × ((kind : LineKind) → line_kind kind ≢ n))
