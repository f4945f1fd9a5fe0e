pub mod OneOn
pub mod Loaded
