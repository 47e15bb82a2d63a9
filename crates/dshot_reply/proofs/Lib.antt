pub mod Tables
pub mod Levels
pub mod RunLaws
pub mod WordLaws
pub mod DecodeLaws
pub mod SimLaws
pub mod Injective
