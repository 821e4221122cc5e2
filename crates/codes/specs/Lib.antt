-- What the contracts of `codes` cite.
pub mod Codes
pub mod Words
pub mod Steps
pub mod Asked
pub mod Batch
pub mod Log
pub mod Catalogue
pub mod Unique
