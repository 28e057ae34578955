-- The rules of docs/RULES.md, a file to a section, in a reader's order.
-- words that the sections share, and the numbers of the sheet
pub mod Basics
pub mod Layout
pub mod Limits
-- records, the lists, the space between units, groups, breaks and adjustment
pub mod Records
pub mod Listed
pub mod Space
pub mod Sides
pub mod Gaps
pub mod Groups
pub mod Breaks
pub mod Adjustment
-- the lines that an edit composes anew; then the sheet, its calls and answers, and slots taken and given back
pub mod Redone
pub mod Sheet
pub mod Refusals
pub mod Pool
-- what the definitions mean, said without their algorithms
pub mod Meanings
pub mod Percent
pub mod Stable
pub mod SpaceBetween
pub mod LowestFree
-- the table and the words in which the program has the gaps
pub mod Spacing
pub mod Packed
-- what the contracts say of the program's own values: structs, tables and bounds
pub mod Structs
pub mod Numbers
pub mod Tables
pub mod Bounds
-- one name for all definitions, for claims that the checker computes
pub mod Computed
