pub mod Common
pub mod UsageWritten
pub mod UsageFaults
pub mod RunLemmas
