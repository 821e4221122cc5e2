-- What the contracts of `spelling` cite.
pub mod Spelling
