pub mod Limits
pub mod Settings
pub mod Steps
pub mod Written
pub mod Told
pub mod Settled
pub mod Read
