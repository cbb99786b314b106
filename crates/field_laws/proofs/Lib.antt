pub mod InverseLaws
pub mod SBoxLaws
