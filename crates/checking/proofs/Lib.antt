mod Tests
mod Children
pub mod Containers
mod Loops
mod Cursor
mod Leaves
mod Fields
mod Elements
mod Values
mod StructLoops
mod Plain
mod Arrays
mod Root
