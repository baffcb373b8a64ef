-- What the contracts of public calls say.
pub mod Guarantees
