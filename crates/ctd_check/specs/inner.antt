-- What only the proofs of this crate use.
pub mod Halts
pub mod FrameTasks
pub mod Advances
pub mod Opening
pub mod Progress
pub mod Loops
pub mod Acts
