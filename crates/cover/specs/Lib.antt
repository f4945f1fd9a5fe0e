pub mod Memory
pub mod Lent
pub mod Ready
pub mod Turns
pub mod Filled
pub mod Questions
