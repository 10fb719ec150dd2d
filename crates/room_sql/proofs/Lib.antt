mod Common
pub mod Bound
pub mod Frames
pub mod Decisions
pub mod NodeRows
pub mod ReadLists
pub mod Made
pub mod NewObjects
pub mod Calls
pub mod Taken
