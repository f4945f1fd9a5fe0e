pub mod Sets
pub mod Counts
