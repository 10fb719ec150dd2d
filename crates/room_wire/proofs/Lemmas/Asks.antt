-- What messages ask: routes, the caller, events and questions.
pub mod Callers
pub mod Finds
pub mod Numerals
pub mod RoomTargets
pub mod Routes
pub mod TargetTexts
pub mod Targets
pub mod Walks
