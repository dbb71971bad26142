-- What the contracts of `verifier` cite.
pub mod Verdict
pub mod View
