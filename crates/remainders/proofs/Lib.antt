pub mod Entering
pub mod Lowering
pub mod Noting
pub mod Orders
pub mod Passing
pub mod Summing
pub mod Reading
