-- Laws that the proofs cite.
mod Lengths
mod Told
mod Placing
mod Walking
