pub mod Common
pub mod Sound
