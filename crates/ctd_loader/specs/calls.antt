-- What else the contracts of public calls say.
pub mod Loading
