-- The laws of catalogues, and what the functions' proofs cite.
pub mod Among
pub mod Standing
pub mod Entries
pub mod Holding
pub mod Growing
mod Compared
mod Searching
mod Judging
pub mod Finding
pub mod Table
