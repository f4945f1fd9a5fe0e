pub mod States
pub mod History
pub mod Made
pub mod Season
