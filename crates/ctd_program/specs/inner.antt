-- What only the proofs of this crate use.
pub mod View
pub mod PresetFront
