-- What a catalogue is, and what the functions of `shelf` hand on of its lent bytes.
pub mod Catalogue
pub mod Holding
pub mod Places
pub mod Table
