pub mod WrapLaws
pub mod Injective
