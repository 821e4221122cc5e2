-- What the contracts of `chords` cite.
pub mod Chords
pub mod Plain
pub mod Places
