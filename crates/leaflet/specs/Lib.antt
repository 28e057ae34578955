-- How a leaflet is read, told in docs/RULES.md. A reader's order is that of the lines below.
-- Which texts are accepted, their reading, the place that answer 17 names, and the records. Nothing in them speaks of a
-- reader.
pub mod Utf8
pub mod Items
pub mod Contents
pub mod Faults
pub mod Imported
-- A reader: the item that bytes start with, where in the markup it stands, and what a text is read as.
-- proofs/Claims.antt proves what it gives.
pub mod Decoding
pub mod Spots
pub mod Reader
-- What the program's contracts say beside: records from the first item to the last, the program's types, and what an
-- item adds to what has been read.
pub mod Written
pub mod Enums
pub mod Past
