pub mod FoursLaws
pub mod MadeLaws
