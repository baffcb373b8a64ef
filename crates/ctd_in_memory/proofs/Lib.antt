pub mod SourceLemmas
pub mod TextLemmas
