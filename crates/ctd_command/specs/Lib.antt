-- what the theorem of the tool reaches: to be believed
pub mod State
pub mod Integer
pub mod Commands
pub mod Blanks
pub mod Regex
-- what else the contracts of public calls say
pub mod calls
-- what only the proofs of this crate use
pub mod inner
