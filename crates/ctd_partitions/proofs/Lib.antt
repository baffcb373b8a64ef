pub mod Changing
pub mod Denying
pub mod Joining
