-- What the contracts of `chart` cite.
pub mod Claims
pub mod Labels
pub mod Room
