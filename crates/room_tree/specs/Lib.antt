pub mod Stops
pub mod Plans
pub mod LoadedObjects
pub mod Asks
pub mod Depths
pub mod Renames
pub mod Renewals
