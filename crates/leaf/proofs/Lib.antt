-- Laws in the form that the code's proofs cite; `StoreLaws` is for every reading above too, and so are the runs of parts of `RunLaws`.
pub mod StoreLaws
pub mod RunLaws
pub mod LeafLaws
