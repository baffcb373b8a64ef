-- What only the proofs of this crate use.
pub mod Regex
pub mod FailureCodes
pub mod Performs
pub mod Alone
pub mod Summaries
pub mod Passing
pub mod Blanks
