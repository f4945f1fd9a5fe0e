pub mod Appending
pub mod Lengths
pub mod Listed
pub mod Carried
