pub mod BytesLaws
pub mod CaseLaws
pub mod EntriesLaws
pub mod TestLaws
pub mod XorLaws
