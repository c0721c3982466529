-- What several proofs use.
pub mod WholeLaws
