-- Laws of the definitions in the form that the code's proofs cite.
pub mod DigitLaws
pub mod GroupLaws
pub mod AmountLaws
pub mod PutLaws
pub mod EncodeLaws
pub mod EscapeLaws
pub mod IntegerLaws
