-- Laws of the call in the form that the code's proofs cite.
pub mod CallLaws
