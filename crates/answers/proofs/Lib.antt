pub mod AnswerLaws
pub mod KeptLaws
pub mod LockLaws
