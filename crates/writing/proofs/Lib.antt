-- The laws that the proofs of `writing` cite.
mod Whole
