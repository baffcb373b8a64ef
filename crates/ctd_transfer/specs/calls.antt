-- What the contracts of public calls say.
pub mod Results
pub mod Values
pub mod Tests
pub mod Acts
