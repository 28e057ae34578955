-- `rules::spacing::cell_between` meets its contract. Assumes nothing.
use Rattle.rules.proofs.SpacingTable.{cell_read}
use Rattle.rules.proofs.spacing.cell_between.Goals as goal

pub returns : goal.returns
returns c =
    rw (c.class_index.ensures.0, c.class_index-2.ensures.0) (cell_read _ _ c.requires.0 c.requires.1 _)
