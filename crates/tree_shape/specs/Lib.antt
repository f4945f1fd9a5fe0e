pub mod Trees
pub mod Shapes
