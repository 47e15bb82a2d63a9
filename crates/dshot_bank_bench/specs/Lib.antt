pub mod Cycles
pub mod Runs
