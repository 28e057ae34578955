-- docs/RULES.md, "The sheet": the words of a slot and of a sheet, and their limits.
--
--   sheet        P slots of 2,824 words each, P from 1 to 64
--   slot         head, 256 records, 256 places, 256 lines: 8 + 1,536 + 512 + 768 words
--   head         clinic, measure, indent, record count, line count, in use, two zeros
--   in use       0 or 1: whether the slot's clinic has taken it (docs/RULES.md, "Which slots are in use")
--   setting      of a slot: clinic, measure, indent and in use
--   place        of a record: x, line number
--   line         first record, end x, kind
--   fresh        a slot with a setting and nothing else: all other words are 0
--
-- Assumes nothing.
use Rattle.std.specs.Prelude.{ℕ, suc, ◌+◌, ◌*◌, ◌-◌, ◌/◌, ◌%◌, Bool, ◌&&◌}
use Rattle.std.specs.Prelude.{List, [], ◌∷◌, ◌++◌, leb, ltb, eqb, length, take, drop, get_or}
use Rattle.rules.specs.Basics.{within, zeros, padded}
use Rattle.rules.specs.Layout.{most_slots, records_length, places_length, lines_length, slot_length}
use Rattle.rules.specs.Layout.{clinic_at, measure_at, indent_at, record_count_at, line_count_at, in_use_at, records_at}
use Rattle.rules.specs.Limits.{highest_clinic, least_measure, largest_measure}
use Rattle.rules.specs.Records.{Rec, records, record_words}
use Rattle.rules.specs.Groups.{units}
use Rattle.rules.specs.Adjustment.{Line, compose}

-- the places of line i's records
unfoldable pub places_of : ℕ → List ℕ → List ℕ
places_of i [] = []
places_of i (x ∷ xs) = x ∷ i ∷ places_of i xs

-- the place words of lines, of which the first is line i
unfoldable pub place_words : ℕ → List Line → List ℕ
place_words i [] = []
place_words i (l ∷ ls) = places_of i l.xs ++ place_words (suc i) ls

-- the line words of lines, of which the first starts at record f
unfoldable pub line_words : ℕ → List Line → List ℕ
line_words f [] = []
line_words f (l ∷ ls) = f ∷ l.end ∷ l.kind ∷ line_words (f + l.count) ls

-- the words of a slot that an edit keeps
pub record Setting : Type 0 where
  pub clinic : ℕ
  pub measure : ℕ
  pub indent : ℕ
  pub in_use : ℕ

-- as set-up gives it: "in use", "0 after set-up"
abbrev pub setting : ℕ → ℕ → ℕ → Setting
setting clinic m x = record { clinic = clinic; measure = m; indent = x; in_use = 0 }

-- the same clinic, measure and indent with another in-use word
abbrev pub with_use : Setting → ℕ → Setting
with_use t w = record { clinic = t.clinic; measure = t.measure; indent = t.indent; in_use = w }

abbrev pub head : Setting → ℕ → ℕ → List ℕ
head t n lines = t.clinic ∷ t.measure ∷ t.indent ∷ n ∷ lines ∷ t.in_use ∷ 0 ∷ 0 ∷ []

-- the words of a slot of these records and lines: "Words past the counts are zero."
abbrev pub slot_of : Setting → List Rec → List Line → List ℕ
slot_of t rs ls =
    head t (length rs) (length ls) ++ padded records_length (record_words rs) ++ padded places_length (place_words 0 ls)
    ++ padded lines_length (line_words 0 ls)

-- the 2,824 words of a slot, from its setting and its records
unfoldable pub slot_words : Setting → List Rec → List ℕ
slot_words t rs = slot_of t rs (compose t.measure t.indent (units rs))

abbrev pub fresh : Setting → List ℕ
fresh t = t.clinic ∷ t.measure ∷ t.indent ∷ 0 ∷ 0 ∷ t.in_use ∷ zeros (slot_length - 6)

-- the head's words, the setting, and the records, of a slot s
abbrev pub clinic_of : List ℕ → ℕ
clinic_of s = get_or s clinic_at 0

abbrev pub measure_of : List ℕ → ℕ
measure_of s = get_or s measure_at 0

abbrev pub indent_of : List ℕ → ℕ
indent_of s = get_or s indent_at 0

abbrev pub in_use_of : List ℕ → ℕ
in_use_of s = get_or s in_use_at 0

abbrev pub setting_of : List ℕ → Setting
setting_of s = with_use (setting (clinic_of s) (measure_of s) (indent_of s)) (in_use_of s)

abbrev pub count_of : List ℕ → ℕ
count_of s = get_or s record_count_at 0

abbrev pub line_count_of : List ℕ → ℕ
line_count_of s = get_or s line_count_at 0

abbrev pub records_of : List ℕ → List Rec
records_of s = records (drop records_at s) 0 (count_of s)

-- "Limits: clinic 0 to 65,535, where 0 is unassigned; measure 8 to 1,000,000; indent below measure."
abbrev pub limits_ok : ℕ → ℕ → Bool
limits_ok m x = within least_measure largest_measure m && ltb x m

abbrev pub slot_limits_ok : Setting → Bool
slot_limits_ok t = leb t.clinic highest_clinic && limits_ok t.measure t.indent

-- P, and "2,824 P for a P from 1 to 64"
abbrev pub slot_count : List ℕ → ℕ
slot_count ws = length ws / slot_length

abbrev pub length_ok : ℕ → Bool
length_ok n = eqb (n % slot_length) 0 && within 1 most_slots (n / slot_length)

-- slot k of a sheet, and the sheet with other words there
abbrev pub slot_at : List ℕ → ℕ → List ℕ
slot_at ws k = take slot_length (drop (slot_length * k) ws)

abbrev pub with_slot : List ℕ → ℕ → List ℕ → List ℕ
with_slot ws k s = take (slot_length * k) ws ++ (s ++ drop slot_length (drop (slot_length * k) ws))
