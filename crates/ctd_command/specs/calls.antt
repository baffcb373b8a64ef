-- What else the contracts of public calls say.
pub mod Failures
pub mod FailureCodes
pub mod Performs
