-- docs/RULES.md, "Where a line may be broken": five percent must stay together, said of two units, apart from the other
-- forbidden breaks.
--
--   digit        an Arabic digit of class 27
--   postfix      後置省略記号, a postfixed abbreviation, of class 13: % or ℃
--
-- Assumes nothing.
use Rattle.std.specs.Prelude.{Bool, ◌&&◌, eqb}
use Rattle.rules.specs.Sides.{arabic_digit}
use Rattle.rules.specs.Groups.{TextUnit, side}

-- a digit, and a postfix after it
abbrev pub digit_and_postfix : TextUnit → TextUnit → Bool
digit_and_postfix u v = eqb (side u).class 27 && arabic_digit (side u).code && eqb (side v).class 13
