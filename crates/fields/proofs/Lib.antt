pub mod OverlayLaws
pub mod PartLaws
