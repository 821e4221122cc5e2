-- What the contracts of `words` cite: the words that the row layout is written in.
pub mod Bytes
pub mod Bits
pub mod Signed
pub mod Reads
pub mod Slots
pub mod Pairs
pub mod Tests
pub mod Text
pub mod TextTest
pub mod Chars
