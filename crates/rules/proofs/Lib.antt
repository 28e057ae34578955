-- Laws of the rules' definitions and of the leaf functions, in groups by what they serve. `Claims` states what is
-- proved of the rules, in reading order.
-- tests, lists, tables and stores, whatever they are of
pub mod Decisions
pub mod All
pub mod FirstFailing
pub mod ComputedTables
pub mod Zeros
pub mod Stores
-- a record's own rules and the published lists: `record_ok`, `plain_ok`, and answers 8 and 12
pub mod ClassTable
pub mod Bounds
pub mod RecordLimits
pub mod Listed
pub mod Judged
-- cuts into runs: units of records, and runs of units
pub mod Cuts
pub mod CutParts
-- groups: their limits, their two rows and ruby place
pub mod GroupLimits
pub mod GroupedRecords
pub mod SetRows
pub mod GroupRows
pub mod RubyPlaces
-- the spacing table and gaps in one word: `break_forbidden`, `joint_between`, `PackedGap`
pub mod SpacingCells
pub mod SpacingTable
pub mod SpacingBreaks
pub mod SpacingEntries
pub mod Packed
pub mod GapWeights
pub mod GapWords
-- the breaking: lines chosen, longest and no others, answer 10, and what no line starts or ends with
pub mod Widths
pub mod Breaking
pub mod NoBreaking
pub mod LongestLines
pub mod OnlyLines
pub mod LineOpenings
pub mod Percent
-- the adjustment: shares, line ends and gap limits
pub mod Shares
pub mod LineEnds
pub mod GapLimits
-- the numbers of refusals
pub mod Numbers
-- the words of records, lines and slots
pub mod RecordWords
pub mod WordCounts
pub mod AnswerPlaces
pub mod SlotWords
-- lines redone: a paragraph at the start of a line, k and f, r, and the words of lines that stay or move
pub mod Growing
pub mod BreakingStops
pub mod LineStarts
pub mod Splices
pub mod KeptLines
pub mod EditLine
pub mod FirstLines
pub mod Resuming
pub mod MovedWords
pub mod RedoneLines
-- slots taken
pub mod OwnSlots
-- cases worked by hand
pub mod WorkedCases
pub mod ComposedCases
pub mod PercentCases
pub mod RowCases
pub mod PairCases
pub mod ListedCases
pub mod RedoneCases
pub mod PoolCases
-- what is proved
pub mod Claims
