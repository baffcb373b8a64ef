-- What only the proofs of this crate use.
pub mod Holds
pub mod Joined
pub mod Noted
pub mod Knowing
pub mod Absent
pub mod Anything
pub mod Triples
pub mod PostFixpoint
pub mod Sparing
pub mod Walk
pub mod Turns
pub mod Unrolled
pub mod Passages
pub mod Listed
