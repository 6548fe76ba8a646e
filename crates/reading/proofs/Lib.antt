-- Laws of the definitions in the form that the code's proofs cite.
pub mod ReadLaws
pub mod EachLaws
