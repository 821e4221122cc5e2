-- What the contracts of `compare` cite.
pub mod Lines
pub mod Lent
