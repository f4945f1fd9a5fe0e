pub mod Counting
pub mod Links
pub mod Paths
pub mod Search
pub mod Trees
pub mod Entering
pub mod Steps
