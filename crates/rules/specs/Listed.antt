-- "Which characters a class has": a record's code point stands in the list of its class. Answer 12. The lists are crate
-- `lists`.
-- Assumes nothing.
use Rattle.std.specs.Prelude.{ℕ, Bool, List, Option}
use Rattle.lists.specs.Lists.{in_list}
use Rattle.rules.specs.Basics.{first_failing}
use Rattle.rules.specs.Records.{Rec}

unfoldable pub is_listed : Rec → Bool
is_listed r = in_list r.class r.code

-- answer 12: "the first record whose class's list lacks its code point", counted from i
unfoldable pub not_listed : ℕ → List Rec → Option ℕ
not_listed i rs = first_failing is_listed i rs
