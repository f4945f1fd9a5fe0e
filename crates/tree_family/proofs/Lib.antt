pub mod Depths
pub mod Mosts
pub mod Pathways
pub mod Serving
