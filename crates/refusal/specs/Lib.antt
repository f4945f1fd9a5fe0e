pub mod Conversions
pub mod Numbers
pub mod Checks
