-- What the contracts of `lettering` cite.
pub mod Text
pub mod Held
