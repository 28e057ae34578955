-- Laws of the leaflet's definitions and of the program, layer by layer. `Claims` states what they come to, in reading
-- order.
-- Small laws that many use.
pub mod Decisions
-- The markup: a reader's moves and ways, what may follow each, beginnings, and that contents are told by their items.
pub mod SpotMoves
pub mod Runs
pub mod SpotRests
pub mod Beginnings
pub mod OneContent
pub mod GatheredParts
-- Bytes: their ranges, the rows of Unicode's table 3-7, and the item that a text starts with.
pub mod ByteRanges
pub mod Utf8Decoded
pub mod Utf8Rows
pub mod Utf8FourBytes
pub mod NextItem
pub mod Elements
-- The reader: where it stops, that a longest beginning ends there, what stands there, and what it answers.
pub mod Scans
pub mod LongestBeginnings
pub mod AcceptedOrFault
pub mod Standings
pub mod ReadAnswers
-- The records: their classes' lists, their own rules, and that they can be written from the first item to the last.
pub mod ListedCodes
pub mod AdvanceOf
pub mod ImportedRecords
pub mod WrittenRecords
-- The program: the tag that a text starts with (src/items.rt), and one item of a text, by where it leads and by what
-- follows it.
pub mod SplitTag
pub mod PlainClass
pub mod FaultSteps
pub mod ItemsFrom
-- And what it writes: ruby counts (`put_ruby`), a character's record (`put_character`), what an item adds (`past`), and
-- a text (`read_leaflet`), by what its loop holds.
pub mod PutRuby
pub mod PutCharacter
pub mod PutWords
pub mod Passing
pub mod ReadHeld
pub mod ReadHeldChars
pub mod ReadHeldTags
pub mod ReadHeldAhead
pub mod ReadLoop
pub mod ReadEnds
-- What comes of it: texts worked by hand, and the claims.
pub mod Worked
pub mod Examples
pub mod Claims
