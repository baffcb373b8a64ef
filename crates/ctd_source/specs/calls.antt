-- What else the contracts of public calls say.
pub mod Holding
pub mod Agreement
pub mod PlainData
pub mod Reader
pub mod Consistency
pub mod SourceReads
pub mod Received
