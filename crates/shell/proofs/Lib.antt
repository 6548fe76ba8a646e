-- Laws of the definitions in the form that the code's proofs cite.
pub mod AnswerLaws
pub mod LineLaws
pub mod Printed
