pub mod Lawful
pub mod Tightest
pub mod Lefts
pub mod Orders
pub mod Takes
pub mod Asking
