pub mod Bits
pub mod Principals
pub mod SubjectModel
pub mod Entries
pub mod Access
pub mod Pending
pub mod Inheritance
