-- `compose::breaking::Scanned::compose_line` meets its contract. Assumes nothing.
use Rattle.std.proofs.Common.{ap, ◌∙◌, eqb}
use Rattle.compose.proofs.ComposeLine.{adjustable, line_composed}
use Rattle.compose.proofs.breaking.Scanned.compose_line.Goals as goal

pub new-adjustment-requires : goal.new-adjustment-requires
new-adjustment-requires c = adjustable c.requires _ c.unpack.ensures

pub returns : goal.returns
returns c =
    line_composed c.requires _ c.unpack.ensures c.new-adjustment.ensures (ap (eqb c.args.line.end) c.len.ensures)
    c.place_line.ensures c.place_at-end.ensures (c.number.ensures ∙ c.new-adjustment.ensures.kind_is) c.put.ensures
