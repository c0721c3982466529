-- What several proofs use.
pub mod Laws
pub mod FieldLaws
pub mod StepLaws
