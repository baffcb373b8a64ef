-- What only the proofs of this crate use.
pub mod Store
pub mod OrderLaws
pub mod Reading
pub mod Slot
pub mod Showing
