-- The program's structs as the rules have them, field by field. Of a name that the two share, the program's ends in
-- `Value`.
--
--   .. of        what a function is told: record, side
--   .. from      what a function answers: gap
--
-- Assumes nothing.
use Rattle.std.specs.Prelude.{◌≡◌, ℕ, List, [], ◌∷◌}
use Rattle.rules.specs.Records.{Rec, rec_of}
use Rattle.rules.specs.Sides.{Side, side_by}
use Rattle.rules.specs.Gaps.{Gap}
use Rattle.rules.specs.declared.records.Record.{Record}
use Rattle.rules.specs.declared.groups.Side.{Side as SideValue}
use Rattle.rules.specs.declared.gaps.Gap.{Gap as GapValue}

abbrev pub record_of : Record → Rec
record_of r = rec_of r.code r.class r.size r.advance r.group r.ruby

abbrev pub words_of : Record → List ℕ
words_of r = r.code ∷ r.class ∷ r.size ∷ r.advance ∷ r.group ∷ r.ruby ∷ []

-- a record and its six words
abbrev pub HasWords : Record → List ℕ → Type 0
HasWords r words = words ≡ words_of r

abbrev pub side_of : SideValue → Side
side_of side = record { class = side.class; size = side.size; code = side.code }

-- what a unit's neighbours see of it, from its first record
abbrev pub IsSideOf : Record → SideValue → Type 0
IsSideOf r side = side_of side ≡ side_by (record_of r)

abbrev pub gap_from : GapValue → Gap
gap_from g =
    record {
      space = g.space;
      shrink₁ = g.shrink1;
      shrink₂ = g.shrink2;
      stretch₁ = g.stretch1;
      stretch₂ = g.stretch2;
    }
