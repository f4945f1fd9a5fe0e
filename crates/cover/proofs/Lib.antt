pub mod Sparing
pub mod Readiness
pub mod PackingTurn
pub mod PackingProgress
pub mod TakingTurn
pub mod Finding
