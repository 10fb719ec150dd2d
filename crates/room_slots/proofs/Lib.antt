pub mod Counts
pub mod Trials
mod Examples
