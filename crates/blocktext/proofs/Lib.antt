-- What several proofs use.
pub mod LineLaws
pub mod BodyLaws
pub mod PutLaws
pub mod StringLaws
pub mod PartLaws
pub mod HexLaws
pub mod JoinedLaws
