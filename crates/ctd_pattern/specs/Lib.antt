-- what the theorem of the tool reaches: to be believed
pub mod Pattern
-- what else the contracts of public calls say
pub mod calls
