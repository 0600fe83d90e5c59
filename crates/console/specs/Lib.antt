pub mod Answers
pub mod Console
pub mod Limits
pub mod Lines
pub mod Orders
pub mod Refusals
pub mod Texts
