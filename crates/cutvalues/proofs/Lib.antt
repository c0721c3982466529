-- What several proofs use.
pub mod RunLaws
pub mod CutLaws
pub mod CycleLaws
