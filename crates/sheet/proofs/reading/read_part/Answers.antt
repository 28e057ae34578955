-- `sheet::reading::read_part` meets its contract. Assumes nothing.
use Rattle.sheet.proofs.ReadLaws.{part_or_none}
use Rattle.sheet.proofs.reading.read_part.Goals as goal

pub returns-clause-part : goal.returns-clause-part
returns-clause-part c =
    rw c.unwrap_or-start.ensures (part_or_none _ _ _ _ c.read_range.ensures.number c.read_range.ensures.part)
