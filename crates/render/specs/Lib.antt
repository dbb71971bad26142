-- What the contracts of `render` cite.
pub mod Told
pub mod View
pub mod Room
pub mod Sink
pub mod Counts
pub mod Writes
pub mod Saying
pub mod Promise
