-- what the theorem of the tool reaches: to be believed
pub mod Report
pub mod Writer
pub mod Written
-- what else the contracts of public calls say
pub mod calls
-- what only the proofs of this crate use
pub mod inner
