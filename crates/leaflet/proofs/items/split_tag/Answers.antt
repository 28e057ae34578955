-- `leaflet::items::split_tag` meets its contract. Assumes nothing.
use Rattle.leaflet.proofs.SplitTag.{tag_here, tag_not, tags_past}
use Rattle.leaflet.proofs.items.split_tag.Goals as goal

pub returns-in-Some : goal.returns-in-Some
returns-in-Some c =
    tag_here _ _ _ _ c.loop-tag.invariant c.loop-tag-test.true c.text.ensures c.strip_prefix.ensures.cases c.in-Some.is

pub loop-tag-preserved : goal.loop-tag-preserved
loop-tag-preserved c =
    tag_not _ _ _ _ c.loop-tag.invariant c.loop-tag-test.true c.text.ensures c.strip_prefix.ensures.cases
    c.in_default.is

pub returns : goal.returns
returns c = tags_past _ _ _ c.loop-tag-test.false c.loop-tag.invariant
