-- JSON forms: commands, replies and entries, and their texts.
pub mod Base64
pub mod Commands
pub mod Reading
pub mod Texts
pub mod Writing
