mod ContentLaws
pub mod OpenedOne
pub mod Parts
pub mod ReadBack
pub mod WrittenAgain
