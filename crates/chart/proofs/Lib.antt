-- Laws that the proofs cite.
pub mod Claiming
mod Labelling
mod Finding
mod Walking
mod Example
