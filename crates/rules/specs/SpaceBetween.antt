-- docs/RULES.md, "Where the characters of a group stand": both rows end together, said without the rule's floors: with
-- two or more items a row of a group starts and ends with the group, and only its inner gaps open; a single item stands
-- in the middle; and the longer row does not open at all. In CSS this is `ruby-align: space-between`; in source
-- document 001, 4.4.3.3, the first of the other ways, to open the gaps between characters until both rows are equally
-- long.
--
--   row     items, each told by its offset from the group's start, and by its advance
--   gap     from an item's end to the next one's start
--
-- Assumes nothing.
use Rattle.std.specs.Prelude.{◌≡◌, ℕ, suc, ◌+◌, ◌*◌, ◌-◌, ◌≤◌, ◌<◌, map, get_or}
use Rattle.rules.specs.Basics.{whole}
use Rattle.rules.specs.Groups.{TextUnit, base_offsets}

-- the items of a base row: record k of a unit
abbrev pub offset_of : TextUnit → ℕ → ℕ
offset_of u k = get_or (base_offsets u) k 0

abbrev pub advance_of : TextUnit → ℕ → ℕ
advance_of u k = get_or (map (λ r. r.advance) (whole u)) k 0

-- the gap after item k
abbrev pub gap_after : (ℕ → ℕ) → (ℕ → ℕ) → ℕ → ℕ
gap_after offset advance k = offset (suc k) - (offset k + advance k)

-- of a row of n items in a group of a width: the first item stands at 0, the last one ends where the group does, items
-- do not overlap, inner gaps differ by at most 1, and no item leaves the row
pub record SpaceBetween (n : ℕ) (offset advance : ℕ → ℕ) (width : ℕ) : Type 0 where
  pub starts : offset 0 ≡ 0
  pub ends : offset (n - 1) + advance (n - 1) ≡ width
  pub apart : (k : ℕ) → suc k < n → offset k + advance k ≤ offset (suc k)
  pub even : (j k : ℕ) → suc j < n → suc k < n → gap_after offset advance j ≤ gap_after offset advance k + 1
  pub within : (k : ℕ) → k < n → offset k + advance k ≤ width

-- of one item in a group of a width: the space after it is the space before it, or 1 more
pub record Centred (offset advance width : ℕ) : Type 0 where
  pub before : 2 * offset + advance ≤ width
  pub after : width ≤ 2 * offset + advance + 1

-- of a row of n items: the first stands at 0, and each directly after the one before
pub record Solid (n : ℕ) (offset advance : ℕ → ℕ) : Type 0 where
  pub starts : offset 0 ≡ 0
  pub next : (k : ℕ) → suc k < n → offset (suc k) ≡ offset k + advance k
