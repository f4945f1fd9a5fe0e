pub mod Order
pub mod Group
