pub mod Trees
pub mod Memory
pub mod Lent
pub mod Quotes
