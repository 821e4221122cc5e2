-- The laws of catalogues, and what the entries' proofs cite.
pub mod ByNumber
pub mod Adding
mod Runs
pub mod Kept
pub mod Demand1
pub mod Single
mod Found
mod Entering
mod Answering
pub mod Low
