-- What the contracts of `plural` cite.
pub mod Figures
pub mod Rules
pub mod Class
pub mod View
pub mod Promise
