pub mod Common
pub mod Standing
pub mod NamedValues
pub mod Assigning
pub mod Results
