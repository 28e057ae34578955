-- The records of items, from the first to the last, as a program writes them. proofs/WrittenRecords.antt proves that
-- they are those of the content.
--
--   room         the words that a text is read into
--   chars before tag   how many characters stand before the next tag
--   rt ahead     the character count of the next rt
--   written      the records of items of size s: k groups are begun, the last with n ruby characters
--   due          the ruby count of the last group, of whose rt n characters have been read
--   rubied       words of m records from index g on, with n as their ruby counts; `rubied_to` a word
--
-- Assumes nothing.
use Rattle.std.specs.Prelude.{ℕ, zero, suc, ◌+◌, ◌-◌, ◌/◌, Bool, true, false, cond, List, [], ◌∷◌, set}
use Rattle.std.specs.Prelude.{Option, None, Some}
use Rattle.rules.specs.Layout.{record_length, records_length}
use Rattle.rules.specs.Records.{Rec}
use Rattle.leaflet.specs.Items.{Item, char, tag, Tag}
use Rattle.leaflet.specs.Imported.{as_word, record_of}
use Rattle.leaflet.specs.Spots.{Spot, outside, opened, in_base, bare_opened, in_bare, in_first, rt_due}
use Rattle.leaflet.specs.Spots.{fenced_opened, in_fenced, rp_due, in_last, closing, becomes_record, is_outside}
use Rattle.leaflet.specs.Spots.{step}

-- those of one record more than a slot holds
abbrev pub room : ℕ
room = records_length + record_length

-- the most bytes that a slice has
abbrev pub most_bytes : ℕ
most_bytes = 9223372036854775807

unfoldable pub chars_before_tag : List Item → ℕ
chars_before_tag [] = 0
chars_before_tag (char c ∷ is) = suc (chars_before_tag is)
chars_before_tag (tag t ∷ is) = 0

abbrev pub if_rt : {A : Type 0} → Tag → A → A → A
if_rt Tag.ruby a b = b
if_rt Tag.ruby_end a b = b
if_rt Tag.rt a b = a
if_rt Tag.rt_end a b = b
if_rt Tag.rp a b = b
if_rt Tag.rp_end a b = b

abbrev pub if_ruby : {A : Type 0} → Tag → A → A → A
if_ruby Tag.ruby a b = a
if_ruby Tag.ruby_end a b = b
if_ruby Tag.rt a b = b
if_ruby Tag.rt_end a b = b
if_ruby Tag.rp a b = b
if_ruby Tag.rp_end a b = b

unfoldable pub rt_ahead : List Item → ℕ
rt_ahead [] = 0
rt_ahead (char c ∷ is) = rt_ahead is
rt_ahead (tag t ∷ is) = if_rt t (chars_before_tag is) (rt_ahead is)

abbrev pub toward : Option Spot → Spot
toward None = outside
toward (Some q) = q

-- outside ruby elements a record is in no group, and has no ruby
abbrev pub in_group : Spot → ℕ → ℕ
in_group q k = cond (is_outside q) 0 (as_word k)

-- a character's record, if it has one, before others: in rt and rp it is not kept
unfoldable pub kept : ℕ → Spot → ℕ → ℕ → ℕ → List Rec → List Rec
kept s q k n c rs = cond (becomes_record q) (record_of s (in_group q k) (in_group q n) c ∷ rs) rs

unfoldable pub written : ℕ → Spot → ℕ → ℕ → List Item → List Rec
written s q k n [] = []
written s q k n (char c ∷ is) = kept s q k n c (written s (toward (step q (char c))) k n is)
written s q k n (tag t ∷ is) =
    written s (toward (step q (tag t))) (if_ruby t (suc k) k) (if_ruby t (rt_ahead is) n) is

-- where a character of an rt stands
abbrev pub in_rt : Spot → Bool
in_rt outside = false
in_rt opened = false
in_rt in_base = false
in_rt bare_opened = true
in_rt in_bare = true
in_rt in_first = false
in_rt rt_due = false
in_rt fenced_opened = true
in_rt in_fenced = true
in_rt rp_due = false
in_rt in_last = false
in_rt closing = false

abbrev pub due : Spot → ℕ → List Item → ℕ
due outside n is = n
due opened n is = rt_ahead is
due in_base n is = rt_ahead is
due bare_opened n is = n + chars_before_tag is
due in_bare n is = n + chars_before_tag is
due in_first n is = rt_ahead is
due rt_due n is = rt_ahead is
due fenced_opened n is = n + chars_before_tag is
due in_fenced n is = n + chars_before_tag is
due rp_due n is = n
due in_last n is = n
due closing n is = n

abbrev pub if_rt_end : {A : Type 0} → Tag → A → A → A
if_rt_end Tag.ruby a b = b
if_rt_end Tag.ruby_end a b = b
if_rt_end Tag.rt a b = b
if_rt_end Tag.rt_end a b = a
if_rt_end Tag.rp a b = b
if_rt_end Tag.rp_end a b = b

-- the word of a record that has its ruby count
abbrev pub ruby_at : ℕ
ruby_at = 5

unfoldable pub rubied : ℕ → ℕ → ℕ → List ℕ → List ℕ
rubied zero g n ws = ws
rubied (suc m) g n ws = rubied m (g + record_length) n (set ws (g + ruby_at) n)

abbrev pub rubied_to : ℕ → ℕ → ℕ → List ℕ → List ℕ
rubied_to start end n ws = rubied ((end - start) / record_length) start n ws
