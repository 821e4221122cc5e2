-- What the contracts of `batch` cite, and the laws of batches as statements over definitions alone.
pub mod Frames
pub mod Entries
pub mod Meaning
pub mod Places
pub mod Batches
pub mod Demand1
pub mod Unique
pub mod Table
