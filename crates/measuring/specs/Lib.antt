-- What the contracts of `measuring` cite.
pub mod Measure
pub mod Row
