-- What the contracts of `strokes` cite, and the laws of logs as statements over definitions alone.
pub mod Log
pub mod Entries
pub mod Meaning
pub mod Places
pub mod Kept
pub mod Demand1
pub mod Unique
pub mod Table
