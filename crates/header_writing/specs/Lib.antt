pub mod HeaderWriting
