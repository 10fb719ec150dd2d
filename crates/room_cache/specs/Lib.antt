pub mod Rows
pub mod Slots
pub mod Known
pub mod Cached
