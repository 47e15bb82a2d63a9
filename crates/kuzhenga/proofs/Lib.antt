pub mod SlotLaws
pub mod Cases
