-- The definitions that a reader must believe, in the order in which they build on each other.
pub mod Cells
pub mod Reader
pub mod Faults
pub mod Refusals
pub mod Tiles
pub mod Layout
pub mod Orders
pub mod Listing
pub mod Walk
pub mod Reading
pub mod Places
pub mod Setting
pub mod Entries
pub mod Records
pub mod Demand2
pub mod Demand3
