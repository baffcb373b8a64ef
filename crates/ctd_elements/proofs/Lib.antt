pub mod Common
pub mod Bounds
pub mod Parts
pub mod Following
pub mod Differing
pub mod Limiting
pub mod ElementsRead
pub mod Multiples
