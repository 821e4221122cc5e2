-- What the entries promise together, as statements over definitions alone. `proofs/` proves them; demands 2 and 3 stand in `layout`.
pub mod Demand1
pub mod Outcomes
pub mod Unique
pub mod Table
