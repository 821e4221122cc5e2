-- The laws of logs, and what the functions' proofs cite.
pub mod Numbers
pub mod Logs
pub mod Adding
pub mod Listed
pub mod Walks
pub mod Entering
pub mod Demanded
pub mod Growing
pub mod Running
pub mod Kept
pub mod Cases
pub mod Low
