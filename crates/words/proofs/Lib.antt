-- Laws that the proofs of more than one function, and other crates, cite.
pub mod Numbers
pub mod Parts
pub mod Runs
pub mod Powers
pub mod NumLaws
pub mod FirstSet
pub mod Turns
pub mod TextComputes
pub mod BitLaws
pub mod SignedLaws
pub mod Tests
pub mod TextLaws
pub mod TextTurns
pub mod CharLaws
mod Examples
