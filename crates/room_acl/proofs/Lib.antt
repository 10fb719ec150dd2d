mod Common
pub mod BitTests
pub mod Steps
pub mod FirstEntry
pub mod Subjects
pub mod Lowest
pub mod Decisions
pub mod Travelling
pub mod Marks
pub mod OwnerRights
pub mod WhoTexts
mod Names
mod Examples
