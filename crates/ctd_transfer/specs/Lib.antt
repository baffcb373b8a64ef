-- what the contracts of public calls say
pub mod calls
-- what the contracts inside say
pub mod inner
-- what the definitions take from elsewhere
pub mod Prelude
