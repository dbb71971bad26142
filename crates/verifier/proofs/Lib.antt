-- Lemmas by topic: Flaws on what is wrong with a step, Scans on the pass over the code, Words on the answers in the subject's words.
pub mod Flaws
pub mod Scans
pub mod Words
