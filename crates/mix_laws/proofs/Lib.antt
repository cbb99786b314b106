pub mod BlockLaws
pub mod MixLaws
