pub mod GivenLaws
pub mod MappedLaws
