-- What the contracts of `putting` cite.
pub mod Put
