pub mod Answering
pub mod Hex
pub mod Kept
pub mod Ordering
pub mod Whole
