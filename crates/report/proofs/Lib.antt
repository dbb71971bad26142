-- Lemmas by topic: Flawed on the step at which the verifier stops.
pub mod Flawed
