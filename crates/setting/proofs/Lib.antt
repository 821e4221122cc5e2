-- Laws that the proofs cite.
mod Fits
mod Written
mod Settled
pub mod Refused
