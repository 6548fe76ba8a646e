-- Laws of the definitions in the form that the code's proofs cite.
pub mod PutLaws
pub mod RowLaws
pub mod RestLaws
pub mod NullLaws
pub mod TextLaws
pub mod ListLaws
pub mod PartLaws
pub mod SequenceLaws
pub mod ValueLaws
pub mod LeafLaws
pub mod LiteralLaws
pub mod StartLaws
