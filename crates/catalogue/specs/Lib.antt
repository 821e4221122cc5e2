-- What the entries of a catalogue answer and leave, and what holds of catalogues that two parties share.
pub mod Entries
pub mod Meaning
pub mod Kept
pub mod Demand1
pub mod Unique
