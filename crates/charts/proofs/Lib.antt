pub mod MaskLaws
pub mod Lowest
pub mod Each
pub mod Members
pub mod Evaluating
pub mod Judged
