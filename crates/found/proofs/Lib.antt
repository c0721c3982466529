pub mod FindLaws
pub mod KindsLaws
pub mod ReadLaws
pub mod RootedLaws
pub mod RowsLaws
