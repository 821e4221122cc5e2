-- The laws of batches, and what the functions' proofs cite.
pub mod Sizes
pub mod Framing
mod Ends
pub mod Passing
pub mod Taken
pub mod Orders
pub mod InTurn
pub mod Added
mod Accepting
mod Appending
pub mod Settings
pub mod Batches
pub mod Numbers
pub mod Single
pub mod Low
pub mod Cases
