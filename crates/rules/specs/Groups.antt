-- "Groups and units" and "Where the characters of a group stand": groups, units, and the rows of a group. Answer 9.
--
--   group        neighbouring records with the same non-zero group number; the same number further on is another group
--   unit         a group or a single record
--   base row     親文字列, the records of a group; ruby row, ルビ文字列, its ruby characters, half as large
--   solid        each item directly after the one before, from 0
--
-- Assumes nothing.
use Rattle.std.specs.Prelude.{ℕ, suc, ◌+◌, ◌*◌, ◌-◌, ◌/◌, max, Bool, true, false, cond, not, ◌&&◌, List, []}
use Rattle.std.specs.Prelude.{◌∷◌, leb, ltb, eqb, length, Option, None, Some}
use Rattle.rules.specs.Basics.{within, Run, whole, cut}
use Rattle.rules.specs.Limits.{most_ruby, most_grouped, largest_base}
use Rattle.rules.specs.Records.{Rec, size_ok}
use Rattle.rules.specs.Sides.{Side, side_by}

-- "Neighbouring records with the same non-zero group are one group"
abbrev pub joins : ℕ → ℕ → Bool
joins g h = not (eqb h 0) && eqb g h

abbrev pub same_group : Rec → Rec → Bool
same_group p r = joins p.group r.group

-- r may stand after p, the n-th record of its group: "at most 16 records, equal size, equal ruby count."
abbrev pub may_follow : ℕ → Rec → Rec → Bool
may_follow n p r = eqb p.size r.size && eqb p.ruby r.ruby && ltb n most_grouped

-- "Answer 9 names the first record that differs in size or ruby count from the one before it in its group, or is the
-- seventeenth." Records are counted from i; p, the n-th of its group, stands before them
unfoldable pub bad_group : ℕ → ℕ → Rec → List Rec → Option ℕ
bad_group i n p [] = None
bad_group i n p (r ∷ rs) =
    elim (same_group p r) [
      | false ↦ bad_group (suc i) 1 r rs
      | true ↦ elim (may_follow n p r) [
        | true ↦ bad_group (suc i) (suc n) r rs
        | false ↦ Some i
      ]
    ]

unfoldable pub group_fault : List Rec → Option ℕ
group_fault [] = None
group_fault (r ∷ rs) = bad_group 1 1 r rs

-- "A unit is a group or a single record."
abbrev pub TextUnit : Type 0
TextUnit = Run Rec

unfoldable pub units : List Rec → List TextUnit
units rs = cut same_group rs

-- the number of a unit's records, and of some units'
abbrev pub count : TextUnit → ℕ
count u = suc (length u.rest)

unfoldable pub counts : List TextUnit → ℕ
counts [] = 0
counts (u ∷ us) = count u + counts us

-- what a unit's neighbours see of it: its first record's side
abbrev pub side : TextUnit → Side
side u = side_by u.first

unfoldable pub advances : List Rec → ℕ
advances [] = 0
advances (r ∷ rs) = r.advance + advances rs

-- the widths of the two rows: "Ruby characters are half the size."
abbrev pub base_total : TextUnit → ℕ
base_total u = advances (whole u)

abbrev pub ruby_total : ℕ → ℕ → ℕ
ruby_total n s = n * (s / 2)

-- "The group's advance is the larger of base total and ruby total." A single record outside groups has no ruby
unfoldable pub group_advance : ℕ → ℕ → ℕ → ℕ
group_advance base n s = max base (ruby_total n s)

unfoldable pub advance : TextUnit → ℕ
advance u = group_advance (base_total u) u.first.ruby u.first.size

-- "With n of 2 or more, item k of the shorter row stands at its solid offset plus floor(D·k/(n−1)); with n=1 at
-- floor(D/2)." n is the number of items in the shorter row. "The longer row is solid from 0. Equal rows are both
-- solid." The difference d is taken as longer less shorter, so it is 0 for the longer row
unfoldable pub shift : ℕ → ℕ → ℕ → ℕ
shift d n k = cond (leb 2 n) (d * k / (n - 1)) (d / 2)

-- the offset of an item of the base row: item k of n, at a solid offset
unfoldable pub base_offset : ℕ → ℕ → ℕ → ℕ → ℕ → ℕ → ℕ
base_offset base ruby s n k solid = solid + shift (ruby_total ruby s - base) n k

-- the offsets of the base row's records from record k on
unfoldable pub offsets : ℕ → ℕ → ℕ → ℕ → ℕ → ℕ → List Rec → List ℕ
offsets base ruby s n k solid [] = []
offsets base ruby s n k solid (r ∷ rs) =
    base_offset base ruby s n k solid ∷ offsets base ruby s n (suc k) (solid + r.advance) rs

unfoldable pub base_offsets : TextUnit → List ℕ
base_offsets u = offsets (base_total u) u.first.ruby u.first.size (count u) 0 0 (whole u)

-- the offset of ruby character k of n, over a base of a given advance
unfoldable pub ruby_offset : ℕ → ℕ → ℕ → ℕ → ℕ
ruby_offset base n s k = k * (s / 2) + shift (base - ruby_total n s) n k

-- "Ruby place refuses with 8 if size, count (1 to 64) or k (below the count) is out of limits, or if the base advance
-- is 0 or over 64,000, and then gives offset 0; otherwise its number is 0." A number and an offset
abbrev pub ruby_ok : ℕ → ℕ → ℕ → ℕ → Bool
ruby_ok base n s k = size_ok s && within 1 most_ruby n && ltb k n && within 1 largest_base base

unfoldable pub ruby_place : ℕ → ℕ → ℕ → ℕ → ℕ × ℕ
ruby_place base n s k = cond (ruby_ok base n s k) (0, ruby_offset base n s k) (8, 0)
