pub mod Building
pub mod Listing
pub mod Loads
pub mod PulledText
