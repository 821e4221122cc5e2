-- What the contracts of `standing` cite.
pub mod Maps
pub mod Standing
