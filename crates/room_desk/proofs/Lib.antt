mod Common
pub mod Shorthands
pub mod Runs
pub mod Acceptance
pub mod Allowed
pub mod Results
pub mod Crashes
pub mod SlotRows
pub mod Opening
pub mod Answers
pub mod Bodies
pub mod Closing
pub mod Running
pub mod SlotTests
pub mod Found
pub mod Idle
pub mod Alike
pub mod SentAgain
pub mod Stops
pub mod Trying
pub mod StreamStops
pub mod Numbers
pub mod Repeats
pub mod KeptRows
pub mod Retries
pub mod OwnRequests
pub mod Beginnings
mod Examples
mod AlikeExamples
pub mod Faults
pub mod Messages
pub mod Sent
pub mod Secrets
pub mod SecretRuns
pub mod OtherBytes
pub mod LeftShows
pub mod NumberedAnew
pub mod NeverFull
mod NumberedExamples
pub mod Clients
pub mod Attempts
pub mod AttemptRuns
mod ClientExamples
pub mod ClientStreams
