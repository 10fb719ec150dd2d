pub mod Accepted
pub mod KeptModel
pub mod Slots
pub mod TrialModel
pub mod Trials
