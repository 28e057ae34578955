-- Laws of the calls on a sheet and of the book, in groups by what they serve, each file leaning on those above it.
-- how a call begins: tables of refusals, a sheet's length, the rows 1 to 3 and 14, and a slot in its sheet:
-- `slot_count` and `slot_range`
pub mod Tables
pub mod Lengths
pub mod EntryLaws
pub mod SlotInSheet
-- any call on a slot: what it leaves alone, 17 before all else, two sheets, and numbers that are not given
pub mod OnSlot
pub mod TextFaults
pub mod TwoSheets
pub mod NumbersNotGiven
-- set-up: its answer, and the slots that it writes: `set_up`
pub mod SetUpLaws
pub mod FreshSlots
-- a read: `read`, `read_part` and `read_number`
pub mod ReadLaws
pub mod ReadOnSlot
-- a book's words, and an edit of one of its slots
pub mod BookWords
pub mod BookSlots
-- an edit on a sheet of any words: `edit`
pub mod SlotEdits
pub mod EditChanges
pub mod EditAnswers
-- an import: `import`
pub mod ImportEdits
pub mod ImportTexts
pub mod ImportLaws
-- each call on a slot, there and in the book: a new call is one clause here
pub mod SlotCalls
-- slots taken and given back: `take` and `give_back`
pub mod TakeLaws
pub mod TakenSlots
pub mod GiveBackLaws
pub mod InUseAnswers
-- the book: each call in it as on the sheet, that it stays well-formed, sequences of calls, and histories
pub mod BookSteps
pub mod BookStays
pub mod BookSequences
pub mod BookHistories
-- any call on a sheet, and calls of two clinics
pub mod AnyCall
pub mod SlotAfterCall
pub mod TwoClinics
-- what the claims speak of: demand 3, to be read whole, and runs by name
pub mod Demand3
pub mod Runs
-- laws of runs, from those of the definitions
pub mod RunSteps
pub mod RunLaws
pub mod TwoClinicRuns
pub mod EditRuns
pub mod ImportRuns
pub mod PoolRuns
-- demand 3 proved
pub mod SingleEdits
pub mod Demand3Proved
-- what is proved, in reading order
pub mod Claims
