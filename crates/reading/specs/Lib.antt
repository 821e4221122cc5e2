-- What the contracts of `reading` cite.
pub mod Children
pub mod Opening
pub mod Places
pub mod Finding
pub mod Texts
