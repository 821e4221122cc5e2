-- Laws that the proofs cite.
pub mod Pointing
pub mod Opening
pub mod Rules
pub mod Moving
mod OnPath
pub mod Shown
