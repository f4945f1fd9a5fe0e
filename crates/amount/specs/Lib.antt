pub mod Parts
pub mod Records
pub mod Laws
