-- what the theorem of the tool reaches: to be believed
pub mod ReasonText
pub mod OutcomeText
