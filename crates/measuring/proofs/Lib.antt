-- The laws that the proofs of `measuring` cite.
pub mod Records
mod Packs
mod Sizes
pub mod Bodies
pub mod Totals
mod Loops
pub mod Chosen
mod Whole
