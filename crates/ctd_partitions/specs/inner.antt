-- What only proofs use.
pub mod Denied
pub mod States
