-- What messages ask: routes, the caller, events and questions.
pub mod AskOf
pub mod CheckAsk
pub mod EventModel
pub mod Routing
pub mod Targets
