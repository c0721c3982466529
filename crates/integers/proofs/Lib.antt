-- Laws that several proofs use: of digits and signs, of the order.
pub mod NumeralLaws
pub mod OrderLaws
