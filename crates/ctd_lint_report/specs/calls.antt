-- What the contracts of public calls say.
pub mod Kinds
pub mod Json
pub mod Text
pub mod Traps
pub mod Reasons
pub mod Numbers
pub mod Expressions
pub mod Relations
pub mod Parts
pub mod Guarantees
pub mod Report
