-- Laws that the proofs cite.
mod Apart
mod Lengths
mod Checked
mod Turns
mod Marked
mod Example
