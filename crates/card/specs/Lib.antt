-- What the contracts of `card` cite.
pub mod Input
pub mod Output
pub mod Rows
pub mod Whereabouts
