pub mod OpeningRows
