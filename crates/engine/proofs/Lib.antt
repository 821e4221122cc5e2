-- The laws that the proofs of `engine` cite.
mod Orders
mod Checked
mod Listings
mod Refusing
