-- What else the contracts of public calls say.
pub mod Form
pub mod Scanning
pub mod Lexing
pub mod ShortNames
