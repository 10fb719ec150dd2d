-- Serving the messages of a stream.
pub mod Joins
pub mod Rounds
