-- `leaflet::progress::Progress::past` meets its contract. Assumes nothing.
use Rattle.leaflet.proofs.Passing.{tag_past}
use Rattle.leaflet.proofs.progress.Progress.past.Goals as goal

pub returns-in-Markup : goal.returns-in-Markup
returns-in-Markup c =
    rw (c.in-Markup.is, c.ok_or.ensures.value) (tag_past _ c.past_tag.ensures.refused c.past_tag.ensures.passed)
