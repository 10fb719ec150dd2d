pub mod Faults
pub mod Lines
pub mod Reported
pub mod Walk
