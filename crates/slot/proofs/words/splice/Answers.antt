-- `slot::words::splice` meets its contract: three copies, one after the other. Assumes nothing.
use Rattle.std.proofs.Common.{arith}
use Rattle.slot.proofs.WordPieces.{splices}
use Rattle.slot.proofs.words.splice.Goals as goal

pub returns : goal.returns
returns c =
    splices c.args.list.now c.args.records.now c.args.inserted.now _ _ _ _ _ (omega arith) c.requires.within
    c.copy_from_slice.ensures.after
    c.copy_from_slice-2.ensures.after
    c.copy_from_slice-3.ensures.after
