-- What callers are told of an outcome.
--
--   number from      the number of a read: 0, or the refusal's
--   import number, import place    of an import's refusal: 17 and the fault's offset, or those of the edit that it is
--   import answer from    what an import answers
--
-- Assumes nothing.
use Rattle.std.specs.Prelude.{◌≡◌, ℕ, Result, Ok, Err}
use Rattle.rules.specs.Refusals.{EditAnswer, edit_says}
use Rattle.rules.specs.Numbers.{number_of, place_of}
use Rattle.rules.specs.declared.refusal.Refusal.{Refusal}
use Rattle.rules.specs.declared.answer.Edited.{Edited}
use Rattle.leaflet.specs.declared.reader.Fault.{Fault}
use Rattle.sheet.specs.declared.importing.ImportAnswer.{ImportAnswer}
use Rattle.sheet.specs.declared.importing.ImportRefusal.{ImportRefusal}
use Rattle.sheet.specs.declared.importing.ImportRefusal.TheVariants.{NoLeaflet, Edit}

abbrev pub number_from : {A : Type 0} → Result A Refusal → ℕ
number_from (Ok a) = 0
number_from (Err e) = number_of e

abbrev pub import_number : ImportRefusal → ℕ
import_number (NoLeaflet at) = 17
import_number (Edit e) = number_of e

abbrev pub import_place : ImportRefusal → ℕ
import_place (NoLeaflet at) = at
import_place (Edit e) = place_of e

abbrev pub import_answer_from : Result Edited ImportRefusal → EditAnswer
import_answer_from (Ok e) = edit_says 0 e.lines e.redone
import_answer_from (Err e) = edit_says (import_number e) (import_place e) 0

abbrev pub IsImportAnswerOf : Result Edited ImportRefusal → ImportAnswer → Type 0
IsImportAnswerOf r a = edit_says a.number a.place a.redone ≡ import_answer_from r

abbrev pub IsNoLeaflet : Fault → ImportRefusal → Type 0
IsNoLeaflet f e = e ≡ NoLeaflet f.at

abbrev pub IsRefusedImport : Refusal → ImportRefusal → Type 0
IsRefusedImport r e = e ≡ Edit r
