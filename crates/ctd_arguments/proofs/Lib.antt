pub mod NamedProgram
pub mod SingleLemmas
pub mod UsageFaults
