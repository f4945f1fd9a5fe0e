pub mod Asked
pub mod Packing
pub mod Taking
pub mod Keeping
pub mod Done
pub mod Theorems
