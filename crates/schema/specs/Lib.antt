-- What the crates that stand on `schema` cite.
pub mod Marks
pub mod Types
pub mod House
pub mod Kinds
pub mod Reading
pub mod Walk
