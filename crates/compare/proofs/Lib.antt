pub mod Lent
mod Leaves
pub mod Opened
mod Runs
mod Expected
mod Root
mod Columns
mod Following
mod Closing
mod Refusing
