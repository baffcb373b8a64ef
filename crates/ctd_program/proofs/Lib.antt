pub mod Trees
pub mod TokenFronts
pub mod LiteralFronts
pub mod Splits
pub mod SeparatedLists
pub mod PresetValues
pub mod PresetTargets
pub mod PresetTexts
