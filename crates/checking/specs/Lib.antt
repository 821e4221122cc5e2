-- What the contracts of `checking` cite.
pub mod Sound
pub mod Room
