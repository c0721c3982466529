-- What the promises say: Number, Table, Text, Walk. What is proved of them: Unique. The rest serves the proofs.
pub mod Number
pub mod Table
pub mod Text
pub mod Walk
pub mod Unique
pub mod Contract
pub mod Both
