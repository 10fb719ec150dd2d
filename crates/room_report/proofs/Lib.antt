mod Common
mod Examples
pub mod Below
pub mod Fronts
pub mod Hex
pub mod Items
pub mod Padding
pub mod Rising
pub mod Sent
pub mod Users
pub mod Written
