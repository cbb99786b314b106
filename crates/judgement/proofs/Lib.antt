pub mod JudgingLaws
pub mod PlacementLaws
