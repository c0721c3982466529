-- What the theorems say: Objects, Once, Find, Kinds, Spans, Firsts, Read (find_exactly, spans_in_table, rise_in_table, back_in_table). The rest serves the proofs.
pub mod Objects
pub mod Stands
pub mod Rows
pub mod Rooted
pub mod Looks
pub mod Walks
pub mod Once
pub mod Find
pub mod Kinds
pub mod Spans
pub mod Firsts
pub mod Read
