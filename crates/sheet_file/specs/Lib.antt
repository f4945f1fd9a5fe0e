pub mod Files
pub mod Loading
pub mod Placing
