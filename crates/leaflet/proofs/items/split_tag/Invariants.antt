-- The loop of `leaflet::items::split_tag`: invariant. Assumes nothing.
use Rattle.std.proofs.Common.{◌≡◌, map, drop}
use Rattle.leaflet.specs.Decoding.{next_tag, all_tags}
use Rattle.leaflet.specs.Enums.{tag_of}
use Rattle.leaflet.proofs.items.split_tag.Given as goal

-- no tag before this one stands there
abbrev pub invariant-loop-tag : goal.invariant-loop-tag
invariant-loop-tag l = next_tag (map tag_of (drop l.tag-index l.tag-items)) l.text ≡ next_tag all_tags l.text
