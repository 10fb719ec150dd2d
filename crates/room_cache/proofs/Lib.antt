mod Common
pub mod Keys
pub mod Left
pub mod Remembered
pub mod SlotsKept
pub mod Weights
