-- what the theorem of the tool reaches: to be believed
pub mod StringLiteral
pub mod Cut
pub mod FaultText
pub mod Lexing
pub mod ShortNames
-- what else the contracts of public calls say
pub mod calls
-- what only the proofs of this crate use
pub mod inner
