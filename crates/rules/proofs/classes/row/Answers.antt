-- `rules::classes::row` meets its contract: the table agrees with the rules. Assumes nothing.
use Rattle.rules.proofs.ClassTable.{row_at}
use Rattle.rules.proofs.classes.row.Goals as goal

pub returns : goal.returns
returns c = row_at c.args.number c.requires _
