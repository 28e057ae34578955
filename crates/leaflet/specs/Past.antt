-- What an item adds to what has been read of a text, where d are the words before it, and e those after.
--
-- Assumes nothing.
use Rattle.std.specs.Prelude.{◌≡◌, ℕ, suc, ◌+◌, ◌<◌, true, cond, List, None, Some, Result, Ok, Err}
use Rattle.rules.specs.Layout.{record_length}
use Rattle.leaflet.specs.Items.{tag}
use Rattle.leaflet.specs.Imported.{as_word}
use Rattle.leaflet.specs.Spots.{becomes_record, is_outside, char_step, step}
use Rattle.leaflet.specs.Written.{room, in_rt, if_ruby, if_rt_end, rubied_to}
use Rattle.leaflet.specs.Enums.{tag_of, item_of, spot_of, Putting}
use Rattle.leaflet.specs.declared.spots.Tag.{Tag as TagEnum}
use Rattle.leaflet.specs.declared.spots.Item.{Item as ItemEnum}
use Rattle.leaflet.specs.declared.spots.Item.TheVariants.{Character, Markup}
use Rattle.leaflet.specs.declared.progress.NotPassed.{NotPassed}
use Rattle.leaflet.specs.declared.progress.NotPassed.TheVariants.{Refused, Full}
use Rattle.leaflet.specs.declared.progress.Progress.{Progress}

-- a character c, whose record is of size s, if it has one
pub record CharacterPassed (s : ℕ) (d e : List ℕ) (a : Progress) (c : ℕ) (b : Progress) : Type 0 where
  pub leads : char_step (spot_of a.spot) ≡ Some (spot_of b.spot)
  pub put : Putting d e a.end s (spot_of a.spot) a.groups c (Ok b.end)
  pub groups : b.groups ≡ a.groups
  pub ruby : b.ruby ≡ cond (in_rt (spot_of a.spot)) (suc a.ruby) a.ruby
  pub start : b.start ≡ cond (is_outside (spot_of a.spot)) b.end a.start

pub record TagPassed (d e : List ℕ) (a : Progress) (t : TagEnum) (b : Progress) : Type 0 where
  pub leads : step (spot_of a.spot) (tag (tag_of t)) ≡ Some (spot_of b.spot)
  pub groups : b.groups ≡ if_ruby (tag_of t) (suc a.groups) a.groups
  pub ruby : b.ruby ≡ if_ruby (tag_of t) 0 a.ruby
  pub words : e ≡ if_rt_end (tag_of t) (rubied_to a.start a.end (as_word a.ruby) d) d
  pub end : b.end ≡ a.end
  pub start : b.start ≡ if_rt_end (tag_of t) a.end a.start

-- an item that may not stand there, or for whose record there is no room, or that is passed
pub data Past (s : ℕ) (d e : List ℕ) (a : Progress) : ItemEnum → Result Progress NotPassed → Type 0 where
  refused : {i : ItemEnum} → step (spot_of a.spot) (item_of i) ≡ None → Past s d e a i (Err Refused)
  full : {c : ℕ} → becomes_record (spot_of a.spot) ≡ true → e ≡ d → room < a.end + record_length →
      Past s d e a (Character c) (Err Full)
  character : {c : ℕ} {b : Progress} → CharacterPassed s d e a c b → Past s d e a (Character c) (Ok b)
  markup : {t : TagEnum} {b : Progress} → TagPassed d e a t b → Past s d e a (Markup t) (Ok b)
