mod Wrote
pub mod Numbers
mod Held
mod Found
mod Turns
mod Seats
mod Children
mod Items
mod Structs
mod Maps
pub mod Containers
mod Root
