-- What only the proofs of this crate use.
pub mod Bounds
pub mod Parts
pub mod Following
pub mod Limits
pub mod Reading
