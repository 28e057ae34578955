-- docs/RULES.md, "Groups and units" and "Where a line may be broken": what of a record its neighbours see, and the
-- breaks that are forbidden between two such sides.
--
--   side                 class, size and code point, of a record alone or of one that starts a group
--   L, R                 the left and the right side
--   break                分割, between two units; forbidden, 分割禁止, or permitted
--   not at line start    行頭禁則, a class before which a break is forbidden, so that it starts no line but a paragraph's
--                        first
--   Arabic digit         アラビア数字, 0 to 9
--
-- A code point matters only in classes 8 and 27, and a group counts as class 19: its first record's serves for it.
-- Assumes nothing.
use Rattle.std.specs.Prelude.{ℕ, Bool, cond, ◌&&◌, ◌||◌, [], ◌∷◌, eqb}
use Rattle.rules.specs.Basics.{is_in, within}
use Rattle.rules.specs.Records.{Rec}

pub record Side : Type 0 where
  pub class : ℕ
  pub size : ℕ
  pub code : ℕ

-- "A group counts as class 19." The first record tells a unit's side
unfoldable pub side_by : Rec → Side
side_by r = record { class = cond (eqb r.group 0) r.class 19; size = r.size; code = r.code }

abbrev pub arabic_digit : ℕ → Bool
arabic_digit k = within 0x30 0x39 k

-- "A break between units is forbidden when R is 2 to 7, 9, 10 or 11"
abbrev pub not_at_line_start : ℕ → Bool
not_at_line_start c = within 2 7 c || is_in c (9 ∷ 10 ∷ 11 ∷ [])

-- "A break between units is forbidden when R is 2 to 7, 9, 10 or 11; when L is 1 or 12; when L and R are both 8 with
-- equal code points; when both are 27. All other breaks are permitted"; and between 27 and 13 "forbidden when the left
-- record's code point is U+0030 to U+0039, and permitted after other class 27 records"
unfoldable pub forbidden : Side → Side → Bool
forbidden L R =
    not_at_line_start R.class || is_in L.class (1 ∷ 12 ∷ [])
    || (eqb L.class 8 && eqb R.class 8 && eqb L.code R.code)
    || (eqb L.class 27 && eqb R.class 27)
    || (eqb L.class 27 && arabic_digit L.code && eqb R.class 13)
