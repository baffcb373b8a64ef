-- What the contracts of public calls say.
pub mod Bounds
pub mod Blocks
pub mod States
pub mod Limits
pub mod Reading
pub mod Orders
