-- What the contracts of `code` cite.
pub mod Step
pub mod Code
pub mod Promise
pub mod View
pub mod Refused
pub mod Kinds
