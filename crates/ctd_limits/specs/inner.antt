-- What only the proofs of this crate use.
pub mod Adding
pub mod Listed
pub mod Operators
pub mod Named
pub mod Values
pub mod Elements
pub mod Numbers
