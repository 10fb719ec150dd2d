-- HTTP messages: heads, fields and bodies, and how a stream splits into messages.
pub mod Fronts
pub mod Lacking
pub mod Parts
pub mod Boundaries
pub mod Streams
pub mod Values
