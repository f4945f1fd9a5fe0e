pub mod OneEach
pub mod Pigeons
pub mod Searching
pub mod Walks
pub mod Stepping
pub mod Widening
