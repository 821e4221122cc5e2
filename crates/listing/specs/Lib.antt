-- What the contracts of `listing` cite.
pub mod Lines
pub mod Room
