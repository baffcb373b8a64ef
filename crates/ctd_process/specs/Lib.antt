-- what the theorem of the tool reaches: to be believed
pub mod Words
pub mod Process
