pub mod CodeLaws
pub mod OpenedLaws
pub mod SearchLaws
