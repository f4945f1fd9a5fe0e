pub mod Keeping
pub mod Columns
pub mod Stepping
pub mod Sounds
