-- What only the proofs of this crate use.
pub mod Never
pub mod Sides
pub mod Sound
