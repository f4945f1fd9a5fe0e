pub mod Keeps
pub mod Held
pub mod Calls
pub mod Sound
