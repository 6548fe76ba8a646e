-- Laws of the definitions in the form that the code's proofs cite.
pub mod PlaceLaws
pub mod SliceLaws
pub mod StringLaws
pub mod SkipLaws
pub mod NumberLaws
pub mod TiePlace
pub mod TieSpace
pub mod TieString
pub mod TieNumber
pub mod TieFirst
pub mod TieSkip
