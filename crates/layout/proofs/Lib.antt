pub mod RuleLaws
pub mod SectorSizeLaws
pub mod TestLaws
