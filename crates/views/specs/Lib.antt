pub mod Joined
pub mod Views
pub mod Extents
pub mod Spans
pub mod Runs
pub mod Contents
