pub mod ListCosts
pub mod Lowering
pub mod Differences
pub mod TreeQuotes
pub mod Keeping
pub mod Quoting
