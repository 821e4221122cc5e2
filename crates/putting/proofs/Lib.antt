-- The laws that the proofs of `putting` cite.
mod Slots
mod Paint
mod Given
mod Paints
mod Placed
mod Arrays
mod Fields
mod Valued
mod Root
