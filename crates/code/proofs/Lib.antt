-- Lemmas by topic: Laws holds what is true of each step by itself, Whole of a step that lies within the code, Goods of good code, Theorems and Ways the promises over any reader, Exact the test against the words, Widening what a wider reader keeps, Rowwise the table's rows, Reading the program's decoder, Prefixed runs by what is left alone.
pub mod Laws
pub mod Whole
pub mod Goods
pub mod Theorems
pub mod Ways
pub mod Exact
pub mod Widening
pub mod Rowwise
pub mod Reading
pub mod Prefixed
