pub mod Numbering
pub mod Slots
