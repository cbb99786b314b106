pub mod FoldLaws
pub mod NumbersLaws
pub mod WrittenLaws
