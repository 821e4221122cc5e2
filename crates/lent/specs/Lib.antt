-- What the contracts of `lent` cite, and the theorems over all of its entries.
pub mod Tabulated
pub mod Twins
pub mod Demand1
pub mod Unique
