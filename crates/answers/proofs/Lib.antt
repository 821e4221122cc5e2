-- Laws that the proofs of more than one function, and other crates, cite.
mod FloatLaws
pub mod PathLaws
pub mod Unique
pub mod Kept
