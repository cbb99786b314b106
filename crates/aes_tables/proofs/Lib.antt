pub mod InverseLaws
pub mod TableLaws
