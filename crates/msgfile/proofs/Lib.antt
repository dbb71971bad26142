-- Lemmas by topic: Reading on the numbers of a text, Fronts on fronts of a text, Telling on what a line tells, Faults on where a text can't be read.
pub mod Reading
pub mod Fronts
pub mod Telling
pub mod Faults
