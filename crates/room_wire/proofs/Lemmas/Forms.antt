-- JSON forms: commands, replies and entries, and their texts.
pub mod Base64
pub mod Bodies
pub mod CommandBack
pub mod CommandBytes
pub mod CommandLawful
pub mod CommandParts
pub mod CommandPaths
pub mod CommandTexts
pub mod CommandUtf8
pub mod Letters
pub mod Objects
pub mod Written
