mod Marks
mod Shows
mod Unfit
mod Passing
pub mod Tabled
