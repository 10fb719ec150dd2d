-- What messages are answered: codes, statuses, and the bytes of an answer.
pub mod Heads
pub mod Sends
