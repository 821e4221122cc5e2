-- Laws that the proofs cite.
mod Drawing
mod Pictures
