-- What else the contracts of public calls say.
pub mod View
pub mod Blocks
pub mod Places
pub mod PresetFront
