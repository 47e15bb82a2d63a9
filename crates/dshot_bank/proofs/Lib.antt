pub mod CommandLaws
pub mod Injective
pub mod LaneTests
pub mod LoopLaws
pub mod OrderLaws
pub mod ReplyLaws
