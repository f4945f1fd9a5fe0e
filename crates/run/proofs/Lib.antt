pub mod Histories
pub mod HistorySteps
pub mod Chains
