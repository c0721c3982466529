pub mod Class
pub mod Lang
