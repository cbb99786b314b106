pub mod Judging
pub mod Offsets
