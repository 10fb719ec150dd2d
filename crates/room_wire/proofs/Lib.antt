mod Common
pub mod Lemmas
