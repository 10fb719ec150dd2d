pub mod Answers
pub mod Asks
pub mod Forms
pub mod Messages
pub mod Questions
pub mod Serving
