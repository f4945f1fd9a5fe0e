pub mod Entries
pub mod Families
pub mod Costs
pub mod Stages
pub mod Theorems
pub mod Trees
