-- What only the proofs of this crate use.
pub mod Told
