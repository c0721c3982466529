-- LAYING ONE PROFILE OVER ANOTHER. What has to be believed: Overlay, Overlaid. The rest is proved of them; what the theorems speak of besides stands in Profiles, Clash, Keys, Finds,
-- FindsIn and Grouping. Assumes nothing.
pub mod Overlay
pub mod Overlaid
pub mod Vectors
pub mod Over
pub mod Lists
pub mod Objects
pub mod Whole
pub mod Unspanned
pub mod Walked
pub mod Profiles
pub mod Result
pub mod Promise
pub mod Clash
pub mod Clashed
pub mod Keys
pub mod Finds
pub mod FindsIn
pub mod Bounds
pub mod Grouped
pub mod Grouping
pub mod GroupVectors
pub mod Unchanged
