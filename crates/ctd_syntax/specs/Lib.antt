-- what the theorem of the tool reaches: to be believed
pub mod Lexeme
pub mod Grammar
pub mod Nesting
pub mod PatternLiterals
pub mod Reading
-- what else the contracts of public calls say
pub mod calls
-- what only the proofs of this crate use
pub mod inner
