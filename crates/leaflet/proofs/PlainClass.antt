-- Whether some list has a code point, as the program gets it. Assumes nothing.
use Rattle.std.proofs.Common.{◌≡◌, refl, ap, ◌∙◌, ℕ, true, false, eqb, not, Option, None, Some}
use Rattle.std.specs.Prelude.{is_some}
use Rattle.lists.specs.Lists.{class_of}
use Rattle.lists.specs.Classes.{number_of, number_or_0}
use Rattle.lists.specs.declared.classes.Class.{Class}
use Rattle.lists.specs.declared.classes.Class.TheVariants.{OpeningBracket, ClosingBracket, Hyphen, DividingMark}
use Rattle.lists.specs.declared.classes.Class.TheVariants.{MiddleDot, FullStop, Comma, Inseparable, IterationMark}
use Rattle.lists.specs.declared.classes.Class.TheVariants.{ProlongedSoundMark, SmallKana, PrefixedAbbreviation}
use Rattle.lists.specs.declared.classes.Class.TheVariants.{PostfixedAbbreviation, FullWidthSpace, Hiragana, Katakana}
use Rattle.lists.specs.declared.classes.Class.TheVariants.{Ideographic, Western}
use Rattle.leaflet.specs.Contents.{listed, text_char, plain_char}

-- no class has the number 0
has_number : (class : Class) → true ≡ not (eqb (number_of class) 0)
has_number OpeningBracket = refl
has_number ClosingBracket = refl
has_number Hyphen = refl
has_number DividingMark = refl
has_number MiddleDot = refl
has_number FullStop = refl
has_number Comma = refl
has_number Inseparable = refl
has_number IterationMark = refl
has_number ProlongedSoundMark = refl
has_number SmallKana = refl
has_number PrefixedAbbreviation = refl
has_number PostfixedAbbreviation = refl
has_number FullWidthSpace = refl
has_number Hiragana = refl
has_number Katakana = refl
has_number Ideographic = refl
has_number Western = refl

module _ (c : ℕ) where
  some_listed : (r : Option Class) → number_or_0 r ≡ class_of c → is_some r ≡ listed c
  unfolding listed
  some_listed None e = ap (λ n. not (eqb n 0)) e
  some_listed (Some class) e = has_number class ∙ ap (λ n. not (eqb n 0)) e

  -- in rt and rp too
  pub plain_some : (r : Option Class) → text_char c ≡ true → number_or_0 r ≡ class_of c → is_some r ≡ plain_char c
  unfolding plain_char
  plain_some r t e = rw t (some_listed r e)

  pub plain_none : text_char c ≡ false → false ≡ plain_char c
  unfolding plain_char
  plain_none t = rw t
