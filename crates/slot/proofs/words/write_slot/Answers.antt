-- `slot::words::write_slot` meets its contract: the head, the records, zeros past them, the places and the lines.
-- Assumes nothing.
use Rattle.std.proofs.Common.{rules}
use Rattle.slot.proofs.WordPieces.{writes}
use Rattle.slot.proofs.words.write_slot.Goals as goal

pub returns : goal.returns
returns c =
    let composition = c.args.composition.now in
    writes c.args.words.now c.args.records.now composition.places composition.lines _ _ _ _ _ _ _ c.requires.0
    c.requires.1 (search rules) (search rules) c.put_head.ensures c.copy_from_slice.ensures.after c.clear.ensures
    c.copy_from_slice-2.ensures.after c.copy_from_slice-3.ensures.after
