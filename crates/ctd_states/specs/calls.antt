-- What the contracts of public calls say.
pub mod States
pub mod Changed
pub mod Faults
