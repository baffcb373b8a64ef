-- What only the proofs of this crate use.
pub mod ReadingOn
pub mod Consistency
pub mod TestData
