-- The classes as the program has them, by their numbers.
--
--   number of      a class's number in JLReq
--   number or 0    the same, or 0 where there is no class
--   is numbered    what `try_from` gives of a number: the class that has it, or that none has
--
-- Assumes nothing.
use Rattle.std.specs.Prelude.{◌≡◌, ◌≢◌, ℕ, Option, Some, None, Result, MatchResult}
use Rattle.lists.specs.declared.classes.Class.{Class}
use Rattle.lists.specs.declared.classes.Class.TheVariants.{OpeningBracket, ClosingBracket, Hyphen, DividingMark}
use Rattle.lists.specs.declared.classes.Class.TheVariants.{MiddleDot, FullStop, Comma, Inseparable, IterationMark}
use Rattle.lists.specs.declared.classes.Class.TheVariants.{ProlongedSoundMark, SmallKana, PrefixedAbbreviation}
use Rattle.lists.specs.declared.classes.Class.TheVariants.{PostfixedAbbreviation, FullWidthSpace, Hiragana, Katakana}
use Rattle.lists.specs.declared.classes.Class.TheVariants.{Ideographic, Western}
use Rattle.lists.specs.declared.classes.NoClass.{NoClass}

abbrev pub number_of : Class → ℕ
number_of OpeningBracket = 1
number_of ClosingBracket = 2
number_of Hyphen = 3
number_of DividingMark = 4
number_of MiddleDot = 5
number_of FullStop = 6
number_of Comma = 7
number_of Inseparable = 8
number_of IterationMark = 9
number_of ProlongedSoundMark = 10
number_of SmallKana = 11
number_of PrefixedAbbreviation = 12
number_of PostfixedAbbreviation = 13
number_of FullWidthSpace = 14
number_of Hiragana = 15
number_of Katakana = 16
number_of Ideographic = 19
number_of Western = 27

abbrev pub number_or_0 : Option Class → ℕ
number_or_0 (Some class) = number_of class
number_or_0 None = 0

-- the class whose number it is, or the number back where no class has it
abbrev pub IsNumbered : ℕ → Result Class NoClass → Type 0
IsNumbered n r = MatchResult r (λ class. number_of class ≡ n) (λ e. (e.0 ≡ n) × ((class : Class) → number_of class ≢ n))
