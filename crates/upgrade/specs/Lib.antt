-- What the promise says: Version, Sheet, Decides. The rest is proved of it.
pub mod Version
pub mod Sheet
pub mod Decides
pub mod Order
pub mod Spans
pub mod Unique
pub mod Written
