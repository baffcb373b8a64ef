-- What else the contracts of public calls say.
pub mod Run
pub mod Loops
pub mod BigSteps
pub mod ByLooks
pub mod Checks
pub mod Laws
