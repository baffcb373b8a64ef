-- What else the contracts of public calls say.
pub mod Findings
pub mod Kinds
