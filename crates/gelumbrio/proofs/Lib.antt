-- What is proved of the exports, from what is proved of the calls that they hand on.
pub mod Exports
pub mod Claims
