-- What is proved of the rules of docs/RULES.md, in reading order: each claim is stated in the words of
-- specs/Meanings.antt and proved by one citation. Assumes nothing.
use Rattle.std.proofs.Common.{◌≡◌, refl, ◌∙◌, sym, ℕ, ◌+◌, ◌-◌, ◌/◌, ◌≤◌, ◌<◌, Bool, true, false, List, ◌∷◌, ◌++◌}
use Rattle.std.proofs.Common.{map, ◌↔◌, None, Some, length, get_or}
-- the definitions
use Rattle.lists.specs.Lists.{lists}
use Rattle.rules.specs.Basics.{Run, whole}
use Rattle.rules.specs.Records.{Rec, classes, class_ok}
use Rattle.rules.specs.Listed.{not_listed}
use Rattle.rules.specs.Space.{rule_of, space_of}
use Rattle.rules.specs.Sides.{Side, arabic_digit, forbidden}
use Rattle.rules.specs.Gaps.{flexibility, Gap, gap_by, plus}
use Rattle.rules.specs.Groups.{TextUnit, same_group, units, count, base_total, ruby_total, advance}
use Rattle.rules.specs.Groups.{group_advance, base_offsets, ruby_offset}
use Rattle.rules.specs.Breaks.{forbidden_between, width, runs, no_breaking, breaking}
use Rattle.rules.specs.Adjustment.{amounts_of, totals, natural, Line, line_of, compose}
use Rattle.rules.specs.Redone.{edit_line, resumes, resumed, report}
use Rattle.rules.specs.Sheet.{Setting}
use Rattle.rules.specs.Refusals.{judged, splice}
use Rattle.rules.specs.Pool.{own_among, lowest_free}
use Rattle.rules.specs.Spacing.{named, gap_set, spacing_table, cell_in}
use Rattle.rules.specs.Packed.{packed, unpacked, Packs, AtMost}
-- what is asked of them
use Rattle.rules.specs.Meanings.{All, last_of, Maximal, Boundary, OneUnit, RubyPlaced, Choice, Fits, Longest}
use Rattle.rules.specs.Meanings.{FirstWide, GapAt, WithinLimits, FirstStageFull, Apart, FirstLacking, Listed}
use Rattle.rules.specs.Meanings.{NeverOpens, starts_with}
use Rattle.rules.specs.Percent.{digit_and_postfix}
use Rattle.rules.specs.Stable.{Holds, FirstThat, Resumes, used_by, StableEdit}
use Rattle.rules.specs.SpaceBetween.{offset_of, advance_of, SpaceBetween, Centred, Solid}
use Rattle.rules.specs.LowestFree.{Found}
-- tables of cases worked by hand, which come first: a wrong rule is refused by its case
use Rattle.rules.proofs.WorkedCases.{right}
use Rattle.rules.proofs.ComposedCases.{rows, cases_hold}
use Rattle.rules.proofs.PercentCases.{percents, percents_hold}
use Rattle.rules.proofs.RowCases.{group_rows, group_rows_hold}
use Rattle.rules.proofs.PairCases.{pairs, ruled, wanted, pairs_hold}
use Rattle.rules.proofs.ListedCases.{listings, listings_hold}
use Rattle.rules.proofs.RedoneCases.{edit_rows, edits_right, edit_cases_hold}
use Rattle.rules.proofs.PoolCases.{takes, answered, wanted_answer, takes_hold, calls, numbered, due, calls_hold}
-- the laws that prove it, in the order of the claims
use Rattle.std.proofs.lemmas.Option.{none-some}
use Rattle.rules.proofs.Judged.{judged_passes}
use Rattle.rules.proofs.Listed.{class_in, classes_listed, all_listed, first_not_listed}
use Rattle.rules.proofs.LineOpenings.{comma_not_at_start, no_line_opens}
use Rattle.rules.proofs.Cuts.{cut_maximal, maximal_only, boundary_exact, units_one}
use Rattle.rules.proofs.GroupRows.{base_within, base_between, base_centred, base_solid}
use Rattle.rules.proofs.GroupRows.{ruby_within, ruby_between, ruby_centred, ruby_solid}
use Rattle.rules.proofs.RubyPlaces.{accepted_placed}
use Rattle.rules.proofs.NoBreaking.{breaking_exists, due_exactly, place_of_10}
use Rattle.rules.proofs.Breaking.{breaking_choice, lines_fit}
use Rattle.rules.proofs.LongestLines.{lines_longest}
use Rattle.rules.proofs.OnlyLines.{only_lines}
use Rattle.rules.proofs.Percent.{digit_decides, lines_keep_postfix}
use Rattle.rules.proofs.SpacingCells.{table_gap}
use Rattle.rules.proofs.Packed.{packed_plus, unpacked_packed}
use Rattle.rules.proofs.LineEnds.{ends_within, wide_ends, flush_ends, short_ends, final_ends}
use Rattle.rules.proofs.GapLimits.{within_limits, first_stage_full}
use Rattle.rules.proofs.KeptLines.{all_held}
use Rattle.rules.proofs.EditLine.{edit_line_holds}
use Rattle.rules.proofs.FirstLines.{resumed_first}
use Rattle.rules.proofs.Resuming.{resumes_exactly}
use Rattle.rules.proofs.RedoneLines.{edit_stable}
use Rattle.rules.proofs.OwnSlots.{lowest}
-- the contracts of the code
use Rattle.rules.specs.Tables.{cell_numbers}
use Rattle.rules.specs.declared.spacing.TheConstants.{SPACING}
use Rattle.rules.proofs.SpacingTable.{table_ruled}
use Rattle.rules.proofs.spacing.cell_between.Statement as cell_between_contract
use Rattle.rules.proofs.spacing.cell_between.Met as cell_between_met
use Rattle.rules.proofs.groups.ruby_place.Statement as ruby_place_contract
use Rattle.rules.proofs.groups.ruby_place.Met as ruby_place_met

-- Lists ------------------------------------------------------------------------------------------------------------

-- the eighteen classes are those that have a list
pub lists_of_classes : map class_in lists ≡ classes
lists_of_classes = classes_listed

-- answer 12 is not due exactly where each record's code point stands in the list of its class
pub no_12_exactly : (rs : List Rec) → (not_listed 0 rs ≡ None) ↔ All Listed rs
no_12_exactly rs = all_listed rs

-- and is due, with its place, exactly where that is the first record of which this is not so
pub answer_12_exactly : (rs : List Rec) (i : ℕ) → (not_listed 0 rs ≡ Some i) ↔ FirstLacking Listed rs i
answer_12_exactly rs i = first_not_listed rs i

-- so the code point of each record that is accepted in some measure stands in the list of its class
pub accepted_listed : (m x : ℕ) (rs : List Rec) → (judged m x rs).number ≡ 0 → All Listed rs
accepted_listed m x rs h = (all_listed rs).0 (judged_passes m x rs 0 refl h).listed

-- and no line but the first opens with a character that is listed only under classes that start no line, as the
-- ideographic comma
pub no_line_opens_with : (k m x : ℕ) (rs : List Rec) → NeverOpens k → (judged m x rs).number ≡ 0 →
    Apart (starts_with k) (breaking m x (runs (units rs)))
no_line_opens_with k m x rs n h = no_line_opens k m x rs n h

pub comma_never_opens : NeverOpens 0x3001
comma_never_opens = comma_not_at_start

-- the cases come out as they were worked by hand
pub listed_by_hand : right listings ≡ true
listed_by_hand = listings_hold

-- Units ------------------------------------------------------------------------------------------------------------

-- the units joined up are the records, and they are the maximal runs of neighbours of one non-zero group
pub units_maximal : (rs : List Rec) → Maximal same_group rs (units rs)
unfolding units
units_maximal rs = cut_maximal same_group rs

-- no other units are
pub units_only : (rs : List Rec) (us : List TextUnit) → Maximal same_group rs us → us ≡ units rs
unfolding units
units_only rs us h = maximal_only same_group rs us h

-- each unit is a single record, or records of one non-zero group
pub units_are : (rs : List Rec) → All OneUnit (units rs)
units_are rs = units_one rs

-- in a group each item of the shorter row stays within the longer row: a record r of the base row, and the k-th ruby
-- character
pub base_row_within : (u : TextUnit) (rs : List Rec) (r : Rec) (qs : List Rec) → whole u ≡ rs ++ r ∷ qs →
    get_or (base_offsets u) (length rs) 0 + r.advance ≤ advance u
base_row_within u rs r qs e = base_within u rs r qs e

pub ruby_row_within : (base n s k : ℕ) → k < n → ruby_offset base n s k + s / 2 ≤ group_advance base n s
ruby_row_within base n s k h = ruby_within base n s k h

-- with two or more items, either row starts and ends with the group, and only its inner gaps open, evenly
pub base_row_between : (u : TextUnit) → 2 ≤ count u → SpaceBetween (count u) (offset_of u) (advance_of u) (advance u)
base_row_between u many = base_between u many

pub ruby_row_between : (base n s : ℕ) → 2 ≤ n →
    SpaceBetween n (ruby_offset base n s) (λ k. s / 2) (group_advance base n s)
ruby_row_between base n s many = ruby_between base n s many

-- a single item stands in the middle of the group
pub base_row_centred : (u : TextUnit) → count u ≡ 1 → Centred (offset_of u 0) (advance_of u 0) (advance u)
base_row_centred u one = base_centred u one

pub ruby_row_centred : (base n s : ℕ) → n ≡ 1 → Centred (ruby_offset base n s 0) (s / 2) (group_advance base n s)
ruby_row_centred base n s one = ruby_centred base n s one

-- and the longer row is solid; equal rows both are
pub base_row_solid : (u : TextUnit) → ruby_total u.first.ruby u.first.size ≤ base_total u →
    Solid (count u) (offset_of u) (advance_of u)
base_row_solid u longer = base_solid u longer

pub ruby_row_solid : (base n s : ℕ) → base ≤ ruby_total n s → 0 < n → Solid n (ruby_offset base n s) (λ k. s / 2)
ruby_row_solid base n s longer any = ruby_solid base n s longer any

-- the code of ruby place meets its contract
pub ruby_place_meets : {M : Type 1} → ruby_place_contract.statement M
ruby_place_meets = ruby_place_met.met

-- of records that are accepted in some measure, ruby place gives every ruby character of every group its offset
pub ruby_placed : (m x : ℕ) (rs : List Rec) → (judged m x rs).number ≡ 0 → All RubyPlaced (units rs)
ruby_placed m x rs h = accepted_placed m x rs h

-- Breaks -----------------------------------------------------------------------------------------------------------

-- the boundaries between runs are exactly the permitted breaks
pub runs_boundaries : (u : TextUnit) (us : List TextUnit) (v : TextUnit) (vs : List TextUnit) →
    Boundary (runs (u ∷ us ++ v ∷ vs)) (u ∷ us) (v ∷ vs) ↔ (forbidden_between (last_of u us) v ≡ false)
unfolding runs
runs_boundaries u us v vs = boundary_exact forbidden_between u us v vs

-- answer 10 is not due exactly where some choice of permitted breaks has every line within the measure
pub no_10_exactly : (m x : ℕ) (us : List TextUnit) →
    (no_breaking m x us ≡ None) ↔ ((ls : List (Run TextUnit)) × Choice us ls × Fits m x ls)
no_10_exactly m x us = breaking_exists m x us

-- so it is due exactly where there is none
pub answer_10_exactly : (m x : ℕ) (us : List TextUnit) →
    ((i : ℕ) × (no_breaking m x us ≡ Some i)) ↔ (((ls : List (Run TextUnit)) × Choice us ls × Fits m x ls) → ⊥)
answer_10_exactly m x us = due_exactly m x us

-- where it is due there is no such choice, and its place is the first record of the first run that is too wide
pub answer_10 : (m x : ℕ) (us : List TextUnit) (i : ℕ) → no_breaking m x us ≡ Some i →
    (((ls : List (Run TextUnit)) × Choice us ls × Fits m x ls) → ⊥) × FirstWide m x (runs us) i
answer_10 m x us i h = (λ c. none-some _ (sym ((breaking_exists m x us).1 c) ∙ h), place_of_10 m x us i h)

-- where it is not due the lines are such a choice, every line fits, and each is the longest
pub lines_chosen : (m x : ℕ) (us : List TextUnit) → no_breaking m x us ≡ None →
    Choice us (breaking m x (runs us)) × Fits m x (breaking m x (runs us)) × Longest m x (breaking m x (runs us))
lines_chosen m x us h = (breaking_choice m x us, lines_fit m x us h, lines_longest m x us)

-- and no other lines are
pub lines_only : (m x : ℕ) (us : List TextUnit) (ls : List (Run TextUnit)) → Choice us ls → Fits m x ls →
    Longest m x ls →
    no_breaking m x us ≡ None → ls ≡ breaking m x (runs us)
lines_only m x us ls c f l h =
    let b = breaking_choice m x us in
    only_lines m x ls (breaking m x (runs us)) (c.joins_up
    ∙ sym b.joins_up) c.permitted b.permitted f (lines_fit m x us h) l
    (lines_longest m x us)

-- between a class 27 and a class 13 a break is forbidden exactly after a digit
pub digit_holds_exactly : (l r : Side) → l.class ≡ 27 → r.class ≡ 13 → forbidden l r ≡ arabic_digit l.code
digit_holds_exactly l r e f = digit_decides l r e f

-- so no line ends between a digit and its postfix
pub postfix_kept : (m x : ℕ) (us : List TextUnit) → Apart digit_and_postfix (breaking m x (runs us))
postfix_kept m x us = lines_keep_postfix m x us

-- Spaces -----------------------------------------------------------------------------------------------------------

-- the entry of the spacing table between two classes sets the gap that the rules set, whatever the sizes
pub table_agrees : (L R : ℕ) → class_ok L ≡ true → class_ok R ≡ true → (l r w : ℕ) →
    gap_set (named (cell_in spacing_table L R)) l r w ≡ gap_by (flexibility (rule_of L R) L) (space_of L R) l r w
table_agrees L R h k l r w = table_gap L R h k l r w

-- and the program's table is that one, cell by cell
pub spacing_table_meets : cell_numbers SPACING ≡ spacing_table
spacing_table_meets = table_ruled

-- in which it finds the cell of any two classes
pub cell_between_meets : {M : Type 1} → cell_between_contract.statement M
cell_between_meets = cell_between_met.met

-- gaps in one word add up by one addition, and a word tells the gap, or the sum of up to 255, that it holds
pub one_addition : (g h : Gap) → Packs g → Packs h → packed g + packed h ≡ packed (plus g h)
one_addition g h p q = packed_plus g h p q

pub read_back : (g : Gap) → Packs g → AtMost 255 g → unpacked (packed g) ≡ g
read_back g p b = unpacked_packed g p b

-- Adjustment -------------------------------------------------------------------------------------------------------
-- of a line l that fits the measure m from x on, final or not

module _ (m x : ℕ) (final : Bool) (l : Run TextUnit) (fits : x + width l ≤ m) where
  -- a line wider than the measure ends exactly at it
  pub wide_line : m ≤ natural x l → (line_of m x final l).end ≡ m
  wide_line h = wide_ends m x final l fits h

  -- no line ends past the measure
  pub line_within : (line_of m x final l).end ≤ m
  line_within = ends_within m x final l fits

  -- a flush line ends at it
  pub flush_line : (line_of m x final l).kind ≡ 1 → (line_of m x final l).end ≡ m
  flush_line h = flush_ends m x final l fits h

  -- a short line ends below it and has no stage 2 gap
  pub short_line : (line_of m x final l).kind ≡ 2 →
      ((line_of m x final l).end < m) × ((totals l.first l.rest).stretch₂ ≡ 0)
  short_line h = short_ends m x final l fits h

  -- no gap leaves its stage's limits
  pub gap_limits : (s g : Gap) → GapAt l.first l.rest s g →
      WithinLimits (amounts_of m x final l) (totals l.first l.rest) s g
  gap_limits s g h = within_limits m x final l fits s g h

  -- stage 1 is full before stage 2 moves
  pub stage_order : (s g : Gap) → GapAt l.first l.rest s g →
      FirstStageFull (amounts_of m x final l) (totals l.first l.rest) s g
  stage_order s g h = first_stage_full m x final l fits s g h

-- a final line that is not wider than the measure is left as it is
pub final_line : (m x : ℕ) (l : Run TextUnit) → x + width l ≤ m → natural x l ≤ m →
    (line_of m x true l).end ≡ natural x l
final_line m x l fits h = final_ends m x l fits h

-- Lines redone -----------------------------------------------------------------------------------------------------
-- of an edit's old and new lines

-- k is the old line that holds the place, or the last if the place is the end, or 0 if there are none
pub k_holds : (m x : ℕ) (rs : List Rec) (place : ℕ) →
    let old = compose m x (units rs) in
    (place < length rs → Holds place old (edit_line place old))
    × (length rs ≤ place → edit_line place old ≡ length old - 1)
k_holds m x rs place = rw (← all_held m x rs) (edit_line_holds place (compose m x (units rs)))

-- r is the first new line that passes its test, or the new line count
pub r_first : (place deleted inserted : ℕ) (old new : List Line) →
    FirstThat (resumes place deleted inserted old) new (resumed place deleted inserted old new)
r_first place deleted inserted old new = resumed_first place deleted inserted old new

pub r_test : (place deleted inserted : ℕ) (old : List Line) (j i : ℕ) →
    (resumes place deleted inserted old j i ≡ true) ↔ Resumes place deleted inserted old j i
r_test place deleted inserted old j i = resumes_exactly place deleted inserted old j i

-- of an edit of records at a place, of a stretch that they have: new lines before f equal the old ones, those from r
-- on are old lines, moved, and so are their words; the report is the number of the lines between, and no more than the
-- new lines
pub lines_stable : (m x : ℕ) (rs : List Rec) (place deleted : ℕ) (ins : List Rec) → place + deleted ≤ length rs →
    let old = compose m x (units rs) in
    let new = compose m x (units (splice rs place deleted ins)) in
    StableEdit place deleted (length ins) old new (used_by old) (used_by new)
    (report place deleted (length ins) old new)
lines_stable m x rs place deleted ins fits = edit_stable m x rs place deleted ins fits

-- Slots taken ------------------------------------------------------------------------------------------------------
-- of slots by their settings

-- what a take is granted is the lowest-numbered slot that is the clinic's and free; none, where none is
pub lowest_free_found : (settings : ℕ → Setting) (clinic k n : ℕ) →
    Found settings clinic k n (lowest_free (own_among settings clinic k n))
lowest_free_found settings clinic k n = lowest settings clinic k n

-- Composed by hand -------------------------------------------------------------------------------------------------

-- C1 to C13
pub composed_by_hand : right rows ≡ true
composed_by_hand = cases_hold

-- a digit and the % or ℃ after it
pub percent_by_hand : right percents ≡ true
percent_by_hand = percents_hold

-- the two rows of a group
pub rows_by_hand : right group_rows ≡ true
rows_by_hand = group_rows_hold

-- the break and the gap between two units, rule by rule
pub pairs_by_hand : map ruled pairs ≡ map wanted pairs
pairs_by_hand = pairs_hold

-- the lines that an edit composes anew
pub edits_by_hand : edits_right edit_rows ≡ true
edits_by_hand = edit_cases_hold

-- takes, and calls on slots in use and not in use
pub takes_by_hand : map answered takes ≡ map wanted_answer takes
takes_by_hand = takes_hold

pub calls_by_hand : map numbered calls ≡ map due calls
calls_by_hand = calls_hold
