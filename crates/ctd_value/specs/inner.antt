-- What only the proofs of this crate use.
pub mod Operators
pub mod Lending
pub mod Examples
pub mod Unique
pub mod Val
pub mod Truth
