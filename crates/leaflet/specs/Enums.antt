-- The program's types as the definitions have them: an enum of src/ case by case, and what a function's answer says in
-- these terms. Of a name that the two share, the program's ends in `Enum`.
--
-- Assumes nothing.
use Rattle.std.specs.Prelude.{◌≡◌, ℕ, ◌+◌, ◌≤◌, ◌<◌, true, false, List, [], length, take, Option, None, Some}
use Rattle.std.specs.Prelude.{Result, Ok, Err}
use Rattle.std.specs.Borrow.{Bor}
use Rattle.std.proofs.Math.Seq.{paste}
use Rattle.rules.specs.Layout.{record_length}
use Rattle.rules.specs.Records.{record_words}
use Rattle.leaflet.specs.Items.{Tag, Item, char, tag}
use Rattle.leaflet.specs.Decoding.{Next, nothing, found}
use Rattle.leaflet.specs.Spots.{Spot, outside, opened, in_base, bare_opened, in_bare, in_first, rt_due}
use Rattle.leaflet.specs.Spots.{fenced_opened, in_fenced, rp_due, in_last, closing, becomes_record, allowed}
use Rattle.leaflet.specs.Reader.{fault_in, words_in}
use Rattle.leaflet.specs.Written.{room, kept}
use Rattle.leaflet.specs.declared.spots.Tag.{Tag as TagEnum}
use Rattle.leaflet.specs.declared.spots.Tag.TheVariants.{Ruby, RubyEnd, Rt, RtEnd, Rp, RpEnd}
use Rattle.leaflet.specs.declared.spots.Item.{Item as ItemEnum}
use Rattle.leaflet.specs.declared.spots.Item.TheVariants.{Character, Markup}
use Rattle.leaflet.specs.declared.spots.Spot.{Spot as SpotEnum}
use Rattle.leaflet.specs.declared.spots.Spot.TheVariants.{Outside, Opened, InBase, BareOpened, InBare, InFirst}
use Rattle.leaflet.specs.declared.spots.Spot.TheVariants.{RtDue, FencedOpened, InFenced, RpDue, InLast, Closing}
use Rattle.leaflet.specs.declared.progress.NotPassed.{NotPassed}
use Rattle.leaflet.specs.declared.progress.NotPassed.TheVariants.{Refused, Full}
use Rattle.leaflet.specs.declared.reader.Fault.{Fault}

abbrev pub tag_of : TagEnum → Tag
tag_of Ruby = Tag.ruby
tag_of RubyEnd = Tag.ruby_end
tag_of Rt = Tag.rt
tag_of RtEnd = Tag.rt_end
tag_of Rp = Tag.rp
tag_of RpEnd = Tag.rp_end

abbrev pub item_of : ItemEnum → Item
item_of (Character c) = char c
item_of (Markup t) = tag (tag_of t)

abbrev pub spot_of : SpotEnum → Spot
spot_of Outside = outside
spot_of Opened = opened
spot_of InBase = in_base
spot_of BareOpened = bare_opened
spot_of InBare = in_bare
spot_of InFirst = in_first
spot_of RtDue = rt_due
spot_of FencedOpened = fenced_opened
spot_of InFenced = in_fenced
spot_of RpDue = rp_due
spot_of InLast = in_last
spot_of Closing = closing

abbrev pub step_of : Option SpotEnum → Option Spot
step_of None = None
step_of (Some q) = Some (spot_of q)

-- an item, and what follows it
abbrev pub next_of : Option (ItemEnum × Bor (List ℕ)) → Next
next_of None = nothing
next_of (Some p) = found (item_of p.0) p.1.now

abbrev pub fault_place : {A : Type 0} → Result A Fault → Option ℕ
fault_place (Ok a) = None
fault_place (Err f) = Some f.at

-- the words of a character's record, if it has one, without a ruby count
unfoldable pub words_of : ℕ → Spot → ℕ → ℕ → List ℕ
words_of s q k c = record_words (kept s q k 0 c [])

-- words d with the record of a character c put at i, if it has one, are e; or the character may not stand at spot q,
-- where one may; or it would have a record, and there is no room
pub data Putting (d e : List ℕ) (i s : ℕ) (q : Spot) (k c : ℕ) : Result ℕ NotPassed → Type 0 where
  refused : allowed q c ≡ false → Putting d e i s q k c (Err Refused)
  full : becomes_record q ≡ true → e ≡ d → room < i + record_length → Putting d e i s q k c (Err Full)
  put : {j : ℕ} → allowed q c ≡ true → j ≡ i + length (words_of s q k c) →
      e ≡ paste d i (words_of s q k c) (length (words_of s q k c)) → i + length (words_of s q k c) ≤ room →
      Putting d e i s q k c (Ok j)

-- an accepted text, of which e are the words put, with size s: the words of its records, as far as there was room
pub record ReadsWords (bs : List ℕ) (s : ℕ) (e : List ℕ) (n : ℕ) : Type 0 where
  pub accepted : fault_in bs ≡ None
  pub fits : n ≤ room
  pub same : take n e ≡ take room (words_in s bs)
