pub mod Limits
pub mod Numbering
pub mod Registers
pub mod Kept
