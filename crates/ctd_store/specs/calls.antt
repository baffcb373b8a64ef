-- What else the contracts of public calls say.
pub mod Store
pub mod Places
pub mod StoreLaws
pub mod ValueRef
pub mod Index
pub mod Slot
pub mod Showing
pub mod Hashing
