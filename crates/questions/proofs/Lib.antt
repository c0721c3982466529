-- Laws that several proofs use: of good rows and their texts, of the two questions of a text, of the walk.
pub mod RowLaws
pub mod WalkLaws
