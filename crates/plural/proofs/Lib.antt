-- Lemmas by topic: Written on figures, Ruled on rules that pass, Classed on the class of a number.
pub mod Written
pub mod Ruled
pub mod Classed
