pub mod Cells
pub mod Reader
pub mod Faults
pub mod Tiles
pub mod Orders
mod Values
pub mod Units
mod Kids
pub mod Children
pub mod Containers
pub mod Near
pub mod Items
pub mod Listed
pub mod Steps
pub mod Bitmaps
mod Spot
pub mod AnyOrder
mod Placing
mod Bodies
mod Aside
pub mod Stepped
pub mod Slotted
mod Stepping
pub mod Walked
mod Tree
pub mod Landed
mod Seen
pub mod Single
pub mod Updated
pub mod Cases
mod Judged
mod After
pub mod Told
mod Twice
mod Refused
pub mod Demanded
pub mod Entered
pub mod Demand3
pub mod Recorded
pub mod Rooms
pub mod Written
pub mod Under
pub mod Demand2
pub mod Widths
