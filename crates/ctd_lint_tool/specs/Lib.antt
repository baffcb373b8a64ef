-- what the contract of `answer` reaches
pub mod calls
-- what only the proofs of this crate use
pub mod inner
