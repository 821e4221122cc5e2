-- The laws of a log's row, and what the functions' proofs cite.
pub mod Readings
pub mod Judging
pub mod RowLaws
pub mod PlainRows
