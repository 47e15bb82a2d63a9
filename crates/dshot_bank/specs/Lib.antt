pub mod States
pub mod Orders
pub mod Answers
pub mod Sends
pub mod Serves
pub mod Interrupts
pub mod Views
