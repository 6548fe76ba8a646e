-- Laws of the definitions in the form that the code's proofs cite.
pub mod WithinLaws
pub mod PartLaws
pub mod NameLaws
pub mod ScanLaws
