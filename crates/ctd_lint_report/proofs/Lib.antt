pub mod Common
pub mod Reports
pub mod VerdictText
pub mod Statuses
pub mod Appended
pub mod Exponents
pub mod Telling
