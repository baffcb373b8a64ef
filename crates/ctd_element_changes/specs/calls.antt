-- What the contracts of public calls say.
pub mod Changes
pub mod Tests
pub mod Joins
