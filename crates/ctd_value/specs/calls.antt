-- What else the contracts of public calls say.
pub mod Fault
pub mod Arithmetic
pub mod Laws
pub mod Lending
pub mod Assignments
pub mod Asking
