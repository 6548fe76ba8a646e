-- Laws of the definitions in the form that the code's proofs cite.
pub mod StoredLaws
pub mod ListLaws
pub mod SequenceLaws
pub mod PlainLaws
pub mod CycleLaws
