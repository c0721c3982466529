-- What the program expects of `compare`.
pub mod Above
