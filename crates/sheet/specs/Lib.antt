-- An import on a sheet, the book of demand 3 and the calls on a sheet, what the claims say of sheets and of their free
-- slots, and what the functions of set-up ask of their lists.
pub mod Import
pub mod Book
pub mod OnSheet
pub mod Meanings
pub mod FreeSlots
pub mod Lists
pub mod Told
