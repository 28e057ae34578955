-- One name for all the rules' definitions: a claim that the checker computes says `unfolding computed`.
-- Assumes nothing.
use Rattle.lists.specs.Lists.{lists, in_list}
use Rattle.rules.specs.Basics.{joined, cut, first_failing, zeros}
use Rattle.rules.specs.Records.{code_ok, classes, class_ok, class_index, size_ok, advance_kind, advance_ok, group_ok}
use Rattle.rules.specs.Records.{rec_ok, bad_record, records, record_words}
use Rattle.rules.specs.Listed.{is_listed, not_listed}
use Rattle.rules.specs.Space.{rule_of, measured, space_by, space_of}
use Rattle.rules.specs.Sides.{side_by, forbidden}
use Rattle.rules.specs.Gaps.{flexibility, gap_by, weight, gap_of}
use Rattle.rules.specs.Groups.{bad_group, group_fault, units, counts, advances, group_advance, advance}
use Rattle.rules.specs.Groups.{shift, base_offset, offsets, base_offsets, ruby_offset, ruby_place}
use Rattle.rules.specs.Breaks.{smallest, runs, wide_run, no_breaking, filled, breaking}
use Rattle.rules.specs.Adjustment.{totals, unit_advances, amounts, amounts_of, placed, ending, kind_of, line_of}
use Rattle.rules.specs.Adjustment.{lines_of, compose}
use Rattle.rules.specs.Redone.{starts, holding, edit_line, first_line, resumed, report}
use Rattle.rules.specs.Sheet.{places_of, place_words, line_words, slot_words}
use Rattle.rules.specs.Refusals.{judged, sound, splice, lines_redone, slot_rows, edit_slot, entry_rows, entry_answer}
use Rattle.rules.specs.Refusals.{on_slot, edit, read_rows, read_number, read_start, read_length, read_words}
use Rattle.rules.specs.Refusals.{bad_slot, fresh_slots, set_up_rows, set_up_answer, set_up}
use Rattle.rules.specs.Spacing.{entries, agrees, cell_of, break_of, joint_cell, spacing_table}
use Rattle.rules.specs.Packed.{packed, unpacked}

unfoldable pub computed : Unit {0}
unfolding lists in_list joined cut first_failing zeros code_ok classes class_ok class_index size_ok advance_kind
    advance_ok
    group_ok rec_ok bad_record is_listed not_listed records record_words bad_group group_fault units counts side_by
    advances group_advance advance shift base_offset offsets base_offsets ruby_offset ruby_place rule_of measured
    space_by space_of forbidden flexibility gap_by weight gap_of smallest runs wide_run no_breaking filled breaking
    totals unit_advances amounts amounts_of placed ending kind_of line_of lines_of compose places_of place_words
    line_words slot_words judged sound splice slot_rows edit_slot starts holding edit_line first_line resumed report
    lines_redone entry_rows entry_answer on_slot edit read_rows read_number read_start read_length read_words bad_slot
    fresh_slots set_up_rows set_up_answer set_up entries agrees cell_of break_of joint_cell spacing_table packed
    unpacked
computed = tt
