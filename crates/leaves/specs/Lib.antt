-- What the contracts of `leaves` cite.
pub mod Lines
pub mod Room
pub mod Places
pub mod Whole
