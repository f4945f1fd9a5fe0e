pub mod Climbs
pub mod Noting
pub mod Planted
pub mod Shapes
