-- What only the proofs of this crate use.
pub mod Ranges
pub mod Ends
