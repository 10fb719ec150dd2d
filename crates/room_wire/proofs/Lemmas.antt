-- Lemmas, by the folder of the code that they serve.
pub mod Answers
pub mod Asks
pub mod Forms
pub mod Messages
pub mod Serving
