-- What the composer's contracts cite: a paragraph of record words, its units by the record that they start with, the
-- metrics of its records and the arrays that hold them, its lines, their adjustment and places, and the whole judged
-- and composed.
--
-- Parameters stand in one order, in the program too: a paragraph's words ws; its records' metrics ms;
-- numbers of records and lines, i j k; the measure m and a position x; what else is given; what is written, as it was
-- and as it is; the result.
pub mod Limits
pub mod Paragraph
-- the metrics, filled by a scan; and those that an edit keeps
pub mod Metrics
pub mod HeldOnce
pub mod Scan
pub mod Kept
-- the lines
pub mod Lines
pub mod LineFrom
pub mod Rates
pub mod Adjusted
pub mod Places
-- the whole
pub mod Composed
