-- The laws of twins, and what the functions' proofs cite.
mod By
mod Copying
pub mod InBatch
pub mod Twins
pub mod Demand1
pub mod Single
