-- Laws of a slot's words, in groups by what they serve.
-- words written and spliced: `write_slot` and `splice`
pub mod WordPieces
pub mod SplicedRecords
-- answer 4: `stored_lines`
pub mod RefusalNumbers
pub mod StoredRecords
-- an edit: the rows of its table, the slot with other records, and its record list: `Stretch::of`, `replace` and
-- `edit_slot`
pub mod EditRows
pub mod ReplacedSlot
pub mod EditedList
-- the lines redone: `lines_redone`
pub mod RedoneReport
pub mod EditCounted
-- a giving back: `give_back_slot`
pub mod GiveBackLaws
