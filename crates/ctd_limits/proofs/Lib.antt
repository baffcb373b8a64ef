pub mod Adding
pub mod Listing
pub mod Dividing
pub mod Naming
pub mod Valuing
pub mod NumberBounds
pub mod Turns
