-- HTTP messages: heads, fields and bodies, and how a stream splits into messages.
pub mod Fields
pub mod Limits
pub mod MessageModel
pub mod Stream
pub mod Taken
