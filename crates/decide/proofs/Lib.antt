-- Laws that several proofs use: of versions, of sheets and the decision.
pub mod VersionLaws
pub mod SheetLaws
