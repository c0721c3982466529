pub mod AllowedLaws
pub mod CharLaws
pub mod CleanLaws
pub mod SpellingLaws
pub mod ToldLaws
pub mod WholeLaws
pub mod WideLaws
