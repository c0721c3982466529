-- What several proofs use.
pub mod RowLaws
pub mod KeyLaws
pub mod CycleLaws
pub mod SoundLaws
