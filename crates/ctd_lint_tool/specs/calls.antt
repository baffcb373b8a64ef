-- What the contract of `answer` reaches.
pub mod CommandLine
pub mod Opening
pub mod FileReport
pub mod Usage
pub mod Run
