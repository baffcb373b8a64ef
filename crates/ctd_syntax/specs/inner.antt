-- What only the proofs of this crate use.
pub mod Nesting
pub mod Front
pub mod Levels
pub mod TestGrammar
pub mod CommandWords
pub mod Batches
pub mod Words
pub mod PatternLiterals
