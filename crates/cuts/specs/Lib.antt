pub mod Entries
pub mod Families
pub mod Climbing
pub mod Reaching
pub mod Theorems
