pub mod CaptureLaws
pub mod NumberLaws
pub mod WordLaws
