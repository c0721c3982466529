-- What several proofs use.
pub mod HeadLaws
pub mod KeyLaws
pub mod CycleLaws
pub mod FillLaws
