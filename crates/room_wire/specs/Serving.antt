-- Serving the messages of a stream.
pub mod CheckService
pub mod Ends
pub mod Outputs
