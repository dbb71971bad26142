-- What the contracts of `msgfile` cite.
pub mod Text
pub mod Numbers
pub mod Read
pub mod Told
pub mod File
pub mod Tell
pub mod Promise
