-- what the contracts of public calls say
pub mod calls
pub mod inner
