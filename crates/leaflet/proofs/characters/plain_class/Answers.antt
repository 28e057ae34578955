-- `leaflet::characters::plain_class` meets its contract. Assumes nothing.
use Rattle.std.proofs.Common.{sym}
use Rattle.leaflet.proofs.PlainClass.{plain_some, plain_none}
use Rattle.leaflet.proofs.characters.plain_class.Goals as goal

pub returns-then-is_text_char-clause-allowed : goal.returns-then-is_text_char-clause-allowed
returns-then-is_text_char-clause-allowed c = plain_some _ _ (sym c.if-is_text_char.ensures) c.class_of.ensures

pub returns-else-is_text_char-clause-allowed : goal.returns-else-is_text_char-clause-allowed
returns-else-is_text_char-clause-allowed c = plain_none _ (sym c.if-is_text_char.ensures)
