-- Laws in the form that the code's proofs cite.
pub mod StretchLaws
pub mod SpaceLaws
pub mod NumberLaws
pub mod WordLaws
pub mod StringLaws
pub mod FlagLaws
pub mod CharLaws
pub mod AnyNumber
pub mod SkipLaws
pub mod SameLaws
pub mod NameLaws
pub mod OctetLaws
pub mod ReadLaws
pub mod PutLaws
