-- What only the proofs of this crate use.
pub mod Free
pub mod Before
pub mod Assigning
pub mod Elements
pub mod Compared
pub mod Beside
pub mod Keys
