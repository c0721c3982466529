-- What the promise says: Integer, Order. What is proved of it: Unique, Ordered. The rest serves the proofs.
pub mod Integer
pub mod Order
pub mod Unique
pub mod Ordered
pub mod Contract
pub mod Sized
pub mod Signed
pub mod Text
