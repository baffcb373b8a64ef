-- What the contracts of public calls say.
pub mod States
pub mod Partitions
pub mod Tests
