pub mod Codes
pub mod Words
pub mod Steps
pub mod Asking
pub mod Unique
pub mod InBatch
pub mod Answered
pub mod ByNumber
