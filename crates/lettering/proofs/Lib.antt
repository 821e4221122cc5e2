-- Laws that the proofs cite.
pub mod Putting
pub mod Lengths
