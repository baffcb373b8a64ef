-- What the contracts inside say.
pub mod Results
pub mod Operators
pub mod Indices
pub mod Evaluated
pub mod Divisors
pub mod Compared
pub mod Splits
pub mod Acts
