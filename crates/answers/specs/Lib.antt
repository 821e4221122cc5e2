-- What the contracts of `answers` cite.
pub mod Meaning
pub mod Paths
