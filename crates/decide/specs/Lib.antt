-- WHAT THE FUNCTIONS OF THE DECISION PROMISE EACH OTHER, and how rows and trees answer to each other. Assumes nothing.
pub mod Rows
pub mod Texts
pub mod Trees
pub mod Found
pub mod Exactly
pub mod Contract
pub mod Sheets
pub mod Deciding
