-- What the contracts of `picture` cite.
pub mod Picture
